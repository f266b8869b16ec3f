use Rattle.std.proofs.Common.{◌≡◌, ◌++◌}
use Rattle.std.specs.List.{flat_map, range_with_len}
use Rattle.kc_line_facts.specs.FaultyDefaults.{faulty_in}
use Rattle.kc_line_facts.proofs.default_faults.add_faulty.Given as goal

-- the faulty defaults so far
abbrev pub invariant-loop-place : goal.invariant-loop-place
invariant-loop-place l = l.found.items ≡ l.initial.found.items ++ flat_map (faulty_in l.tree l.number l.definition) (range_with_len 0 l.place)
