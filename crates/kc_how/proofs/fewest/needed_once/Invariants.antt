use Rattle.std.proofs.Common.{◌≡◌, ◌≤◌, length}
use Rattle.kc_how.specs.Question.{IsEnoughFor}
use Rattle.kc_how.proofs.fewest.needed_once.Given as goal

abbrev pub decreases-loop-index : goal.decreases-loop-index
decreases-loop-index l = l.index

-- the lines that are left are enough
abbrev pub invariant-loop-index : goal.invariant-loop-index
invariant-loop-index l = record {
  asked : l.question.asked ≡ l.initial.question.asked;
  inside : l.index ≤ length l.lines.items;
  enough : IsEnoughFor l.initial.question.asked l.lines.items;
}
