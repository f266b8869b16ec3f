use Rattle.std.proofs.Common.{◌≡◌, length}
use Rattle.kc_how.specs.Question.{IsEnoughFor}
use Rattle.kc_how.proofs.fewest.fewest.Given as goal

abbrev pub decreases-loop-left : goal.decreases-loop-left
decreases-loop-left l = length l.left.items

-- the lines that are left are enough
abbrev pub invariant-loop-left : goal.invariant-loop-left
invariant-loop-left l = record {
  asked : l.question.asked ≡ l.initial.question.asked;
  enough : IsEnoughFor l.initial.question.asked l.left.items;
}
