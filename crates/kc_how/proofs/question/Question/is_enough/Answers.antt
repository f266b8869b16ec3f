use Rattle.kc_how.proofs.LackingLaws.{enough_by}
use Rattle.kc_how.proofs.question.Question.is_enough.Goals as goal

pub returns-clause-enough : goal.returns-clause-enough
returns-clause-enough c =
    enough_by c.args.self.now.asked c.args.lines.items c.in_ok-lacking.lacking c.is_none.result c.is_none.ensures c.in_ok-lacking.ensures.lacking
