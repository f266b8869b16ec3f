use Rattle.std.proofs.Common.{◌≡◌}
use Rattle.std.specs.List.{flat_map, range_with_len}
use Rattle.kc_line_facts.specs.ReadingOrder.{marks_at}
use Rattle.kc_line_facts.proofs.read_order.marks_of.Given as goal

-- what is in the files so far
abbrev pub invariant-loop-number : goal.invariant-loop-number
invariant-loop-number l = l.marks.items ≡ flat_map (marks_at l.lines l.files) (range_with_len 0 l.number)
