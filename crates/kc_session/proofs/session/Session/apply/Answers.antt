use Rattle.kc_session.proofs.Feeds.{applied_unfed}
use Rattle.kc_session.proofs.session.Session.apply.Goals as goal

pub returns-clause-unfed : goal.returns-clause-unfed
returns-clause-unfed c = λ plain unfed.
    applied_unfed c.args.self.now.session unfed c.args.command c.perform-reply.result c.perform-reply.new.self.session c.perform-reply.ensures.applied (λ load. c.perform-reply.ensures.unfed_load load unfed) plain
