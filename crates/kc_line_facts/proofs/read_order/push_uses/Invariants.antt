use Rattle.std.proofs.Common.{◌≡◌, ◌≤◌, ◌++◌, nat_lt, length}
use Rattle.std.specs.List.{prefix_len}
use Rattle.kc_line_facts.specs.ReadingOrder.{uses_between}
use Rattle.kc_line_facts.proofs.read_order.push_uses.Given as goal

-- how many of the lines have smaller numbers than the last use, and the uses so far
abbrev pub invariant-loop-place : goal.invariant-loop-place
invariant-loop-place l = record {
  passed_is : l.passed ≡ prefix_len (λ line. nat_lt line.number l.last) l.gap.lines.now;
  within : l.passed ≤ length l.gap.lines.now;
  forward : l.first ≤ l.place;
  reached_is : l.reached.items ≡ l.initial.reached.items ++ uses_between l.gap.lines.now l.gap.from l.gap.file l.uses l.first l.place;
}
