use Rattle.std.proofs.Common.{subst}
use Rattle.std.specs.Prelude.{IfOk}
use Rattle.kc_how.specs.Needed.{AreNeededFor}
use Rattle.kc_how.specs.Question.{Asked}
use Rattle.kc_how.proofs.needed.needed_for.Goals as goal

pub returns : goal.returns
returns c =
    subst (λ (q : Asked). IfOk c.needed_by.result (λ found. AreNeededFor q c.args.lines.now found.items)) c.in_ok-question.ensures.asked c.needed_by.ensures
