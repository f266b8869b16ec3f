use Rattle.std.proofs.Common.{sym, subst}
use Rattle.kc_value.specs.Fresh.{FreshValue}
use Rattle.kc_value.specs.NodeLists.{AreNodesOf}
use Rattle.kc_value.specs.Solution.{solution, IsOnlySolution}
use Rattle.kc_value.proofs.fresh.FreshResolver.values_of.Goals as goal

pub kept_for-requires-clause-nodes : goal.kept_for-requires-clause-nodes
kept_for-requires-clause-nodes c = subst (λ (f : FreshValue). AreNodesOf f.tree c.args.nodes.now) (sym c.self.view_is) c.requires

pub returns-in_err-kept-clause-solved : goal.returns-in_err-kept-clause-solved
returns-in_err-kept-clause-solved c u = subst (λ (f : FreshValue). IsOnlySolution f.tree u (solution f.tree u)) c.self.view_is (c.kept_for.ensures.solved u)

pub returns-clause-solved : goal.returns-clause-solved
returns-clause-solved c u = subst (λ (f : FreshValue). IsOnlySolution f.tree u (solution f.tree u)) c.self.view_is (c.kept_for.ensures.solved u)
