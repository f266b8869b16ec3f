use Rattle.std.proofs.Common.{subst}
use Rattle.kc_value.specs.Solution.{solution, IsOnlySolution}
use Rattle.kc_session.specs.Session.{SessionState}
use Rattle.kc_session.proofs.session.Session.fill_node.Goals as goal

pub returns-clause-solved : goal.returns-clause-solved
returns-clause-solved c =
    subst (λ (s : SessionState). IsOnlySolution s.session.tree s.session.user (solution s.session.tree s.session.user)) c.self.view_is (c.self.invariant.solved _)
