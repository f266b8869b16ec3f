use Rattle.std.proofs.Common.{◌≡◌, ◌≤◌, length, reverse, take}
use Rattle.kc_outline.specs.Enclosing.{choice_among}
use Rattle.kc_outline.proofs.context.choice_among.Given as goal

-- the blocks that were passed over, the innermost, have no choice
abbrev pub invariant-loop-left : goal.invariant-loop-left
invariant-loop-left l = record {
  within : l.left ≤ length l.blocks;
  same : choice_among (reverse l.blocks) ≡ choice_among (reverse (take l.left l.blocks));
}

abbrev pub decreases-loop-left : goal.decreases-loop-left
decreases-loop-left l = l.left
