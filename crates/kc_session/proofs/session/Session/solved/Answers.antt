use Rattle.kc_session.proofs.session.Session.solved.Goals as goal

pub returns-clause-only : goal.returns-clause-only
returns-clause-only c = c.facts.ensures.solved c.args.self.now.session.user
