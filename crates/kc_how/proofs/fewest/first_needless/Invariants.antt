use Rattle.std.proofs.Common.{◌≡◌, ◌<◌, ℕ}
use Rattle.std.specs.List.{remove}
use Rattle.kc_how.specs.Question.{AreEnough}
use Rattle.kc_how.proofs.fewest.first_needless.Given as goal

-- each line so far is needed
abbrev pub invariant-loop-index : goal.invariant-loop-index
invariant-loop-index l = record {
  asked : l.question.asked ≡ l.initial.question.asked;
  needed : (k : ℕ) → k < l.index → AreEnough l.initial.question.asked (remove l.lines k) → ⊥;
}
