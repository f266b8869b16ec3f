use Rattle.std.proofs.Common.{subst}
use Rattle.kc_statement.specs.declared.tri.Tri.{Tri}
use Rattle.kc_outline.specs.TreeValue.{TreeValue}
use Rattle.kc_value.specs.ExprValue.{expr_value}
use Rattle.kc_value.specs.Solution.{solution}
use Rattle.kc_value.specs.UserValues.{IsUserFor, UserValues}
use Rattle.kc_bounds.specs.Bounds.{BoundsValue}
use Rattle.kc_bounds.specs.TriSets.{IsIn}
use Rattle.kc_bounds.proofs.ScopeLaws.{in_both}
use Rattle.kc_bounds.proofs.possible.Bounds.expr.Goals as goal

pub returns : goal.returns
returns c =
    let value : TreeValue → UserValues → Tri = λ t w. expr_value t (solution t w) c.args.expr.now in
    subst (λ (b : BoundsValue). (w : UserValues) → IsUserFor b.tree w → IsIn c.joined.result (value b.tree w)) c.self.view_is
    (in_both c.self.inside.off c.self.inside.on c.self.invariant (λ t w. IsIn c.joined.result (value t w))
    (λ w u. c.joined.ensures.left _ (c.expr_set-off.ensures w u)) (λ w u. c.joined.ensures.right _ (c.expr_set.ensures w u)))
