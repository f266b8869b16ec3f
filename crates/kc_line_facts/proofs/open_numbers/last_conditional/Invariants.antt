use Rattle.std.proofs.Common.{◌≡◌, ◌≤◌, length, reverse, take}
use Rattle.std.specs.List.{find}
use Rattle.kc_line_facts.specs.SourcedFiles.{is_conditional}
use Rattle.kc_line_facts.proofs.open_numbers.last_conditional.Given as goal

-- the blocks that were passed over, the innermost, have no condition
abbrev pub invariant-loop-left : goal.invariant-loop-left
invariant-loop-left l = record {
  within : l.left ≤ length l.numbers;
  same : find (is_conditional l.tree) (reverse l.numbers) ≡ find (is_conditional l.tree) (reverse (take l.left l.numbers));
}

abbrev pub decreases-loop-left : goal.decreases-loop-left
decreases-loop-left l = l.left
