use Rattle.kc_session.proofs.Feeds.{empty_unfed}
use Rattle.kc_session.proofs.opening.read_user.Goals as goal

pub returns-clause-unfed : goal.returns-clause-unfed
returns-clause-unfed c = c.apply.ensures.unfed (empty_unfed c.args.tree.now _ c.in-Ok.ensures.values) c.in_ok-assigns.ensures.unfed
