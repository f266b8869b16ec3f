use Rattle.std.proofs.Common.{refl}
use Rattle.std.proofs.lemmas.Result.{IfOk-weaker, on_err_weaker}
use Rattle.kc_session.specs.Held.{text_held}
use Rattle.kc_session.proofs.TakingBody.{TakesLastCommand-line, StopsInCommand-body, command_of_body, if_it_goes_on}
use Rattle.kc_session.proofs.next_command.read_body.Goals as goal

pub returns-in-Ended-clause-ok : goal.returns-in-Ended-clause-ok
returns-in-Ended-clause-ok g c =
    IfOk-weaker c.read_lines.result _ _ (λ read taken left line takes asks. taken left line (rw c.in-Ended.is at takes) asks) (command_of_body c.read_lines.result _ _ _ _ c.read_lines.ensures.ok)

pub returns-in-Ended-clause-err : goal.returns-in-Ended-clause-err
returns-in-Ended-clause-err g c =
    on_err_weaker c.read_lines.result (λ stops left line takes asks. StopsInCommand-body left _ _ line (text_held line) _ (rw c.in-Ended.is at takes) refl asks stops) c.read_lines.ensures.err

pub returns-in-Ended-clause-found : goal.returns-in-Ended-clause-found
returns-in-Ended-clause-found g c = rw c.in-Ended.is (if_it_goes_on c.read_lines.result _ refl)

pub returns-in-Unended-clause-ok : goal.returns-in-Unended-clause-ok
returns-in-Unended-clause-ok g c = λ left line takes asks. TakesLastCommand-line left _ line _ (text_held line) _ (rw c.in-Unended.is at takes) refl asks c.no_body.ensures

pub returns-in-Nothing-clause-ok : goal.returns-in-Nothing-clause-ok
returns-in-Nothing-clause-ok g c = λ left line takes asks. rw c.in-Nothing.is at takes
