use Rattle.std.proofs.Common.{◌≡◌, ◌≤◌, ◌<◌, ◌+◌, ℕ, not, length, drop, get_or}
use Rattle.std.specs.List.{prefix_len}
use Rattle.kc_line_facts.specs.ReadingOrder.{ends}
use Rattle.kc_line_facts.proofs.run_places.rests_of.Given as goal

-- of each the line after its end, by the lines from that on
abbrev pub invariant-loop-left : goal.invariant-loop-left
invariant-loop-left l = record {
  sized : length l.rests.items ≡ l.count;
  within : l.left ≤ length l.lines;
  each : (r : ℕ) → r < l.count → get_or l.rests.items r 0 ≡ l.left + (prefix_len (λ line. not (ends r line)) (drop l.left l.lines) + 1);
}

abbrev pub decreases-loop-left : goal.decreases-loop-left
decreases-loop-left l = l.left
