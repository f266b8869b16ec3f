use Rattle.std.proofs.Common.{◌≡◌}
use Rattle.std.specs.List.{flat_map, range_with_len}
use Rattle.kc_line_facts.specs.ListedNames.{listed_at}
use Rattle.kc_line_facts.proofs.listed_names.listed_among.Given as goal

-- those of the names so far
abbrev pub invariant-loop-place : goal.invariant-loop-place
invariant-loop-place l = l.listed.items ≡ flat_map (listed_at l.lines l.prefix l.extent l.doubtful l.meant) (range_with_len 0 l.place)
