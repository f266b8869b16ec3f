use Rattle.std.proofs.lemmas.Result.{IfOk-weaker}
use Rattle.kc_how.proofs.AnswerLaws.{none_of, none_weaker}
use Rattle.kc_how.proofs.answering.answer_of.Goals as goal

pub returns-clause-none : goal.returns-clause-none
returns-clause-none c =
    let none = none_of c.args.question.now.asked c.tree.result.now c.args.lines.now c.in_ok-sorted.sorted.items c.tree.ensures c.in_ok-sorted.ensures in
    IfOk-weaker c.needed_of.result _ _ (λ found. none_weaker none found) c.needed_of.ensures.none
