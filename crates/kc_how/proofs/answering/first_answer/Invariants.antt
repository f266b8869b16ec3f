use Rattle.std.proofs.Common.{◌≡◌, take}
use Rattle.std.specs.Prelude.{All}
use Rattle.kc_how.specs.Question.{IsEnoughFor}
use Rattle.kc_how.proofs.answering.first_answer.Given as goal

-- no list so far is enough
abbrev pub invariant-loop-index : goal.invariant-loop-index
invariant-loop-index l = record {
  asked : l.question.asked ≡ l.initial.question.asked;
  none : All (λ lines. IsEnoughFor l.initial.question.asked lines.items → ⊥) (take l.index l.candidates);
}
