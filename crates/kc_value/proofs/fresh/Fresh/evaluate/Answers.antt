use Rattle.std.proofs.Common.{◌≡◌, Some, refl, subst, arith}
use Rattle.kc_value.specs.Assignment.{value_at}
use Rattle.kc_value.specs.Fresh.{FreshValue}
use Rattle.kc_value.specs.Solution.{solution, IsOnlySolution}
use Rattle.kc_value.proofs.fresh.Fresh.evaluate.Goals as goal

pub returns-in_err-kept-clause-solved : goal.returns-in_err-kept-clause-solved
returns-in_err-kept-clause-solved c u = subst (λ (f : FreshValue). IsOnlySolution f.tree u (solution f.tree u)) c.self.view_is (c.kept_for.ensures.solved u)

pub returns-clause-value : goal.returns-clause-value
returns-clause-value c =
    subst (λ (f : FreshValue). value_at f.tree c.in_ok-kept.kept.values c.args.node ≡ Some (solution f.tree f.user c.args.node)) c.self.view_is
    (c.in_ok-kept.ensures.values c.args.node (0, omega arith, refl))

pub returns-clause-solved : goal.returns-clause-solved
returns-clause-solved c u = subst (λ (f : FreshValue). IsOnlySolution f.tree u (solution f.tree u)) c.self.view_is (c.kept_for.ensures.solved u)
