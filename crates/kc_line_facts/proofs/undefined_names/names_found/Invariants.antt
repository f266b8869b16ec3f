use Rattle.std.proofs.Common.{◌≡◌, take}
use Rattle.std.specs.List.{flat_map}
use Rattle.kc_line_facts.specs.DoubtfulNames.{name_found}
use Rattle.kc_line_facts.proofs.undefined_names.names_found.Given as goal

-- those of the uses so far
abbrev pub invariant-loop-place : goal.invariant-loop-place
invariant-loop-place l = l.found.items ≡ flat_map (name_found l.lines l.uses) (take l.place l.uses)
