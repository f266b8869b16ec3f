use Rattle.std.proofs.Common.{subst}
use Rattle.std.specs.Prelude.{All, IfNone, IfOk, IfSome}
use Rattle.kc_how.specs.Question.{Asked, IsAnswerTo, IsEnoughFor}
use Rattle.kc_how.proofs.answering.answer.Goals as goal

pub returns-clause-found : goal.returns-clause-found
returns-clause-found c =
    subst (λ (q : Asked). IfOk c.first_answer.result (λ found. IfSome found (λ left. IsAnswerTo q left.items))) c.in_ok-question.ensures.asked c.first_answer.ensures.found

pub returns-clause-none : goal.returns-clause-none
returns-clause-none c =
    subst (λ (q : Asked). IfOk c.first_answer.result (λ found. IfNone found (All (λ lines. IsEnoughFor q lines.items → ⊥) c.args.candidates.now)))
    c.in_ok-question.ensures.asked c.first_answer.ensures.none
