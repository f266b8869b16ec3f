use Rattle.std.proofs.Common.{◌≡◌, Bool, subst}
use Rattle.kc_outline.specs.TreeValue.{TreeValue}
use Rattle.kc_tree.specs.declared.node.Node.TheVariants.{Val}
use Rattle.kc_value.specs.Solution.{solution}
use Rattle.kc_value.specs.UserValues.{IsUserFor, UserValues}
use Rattle.kc_value.specs.declared.value.Value.TheVariants.{Shown}
use Rattle.kc_bounds.specs.Bounds.{BoundsValue}
use Rattle.kc_bounds.proofs.ScopeLaws.{in_both}
use Rattle.kc_bounds.proofs.possible.Bounds.can_be.Goals as goal

pub returns-else-can_be : goal.returns-else-can_be
returns-else-can_be c = λ no.
    let never : TreeValue → UserValues → Type 0 = λ t w. (written : Bool) → solution t w (Val c.args.symbol) ≡ Shown c.args.value.now written → ⊥ in
    subst (λ (b : BoundsValue). (w : UserValues) → IsUserFor b.tree w → never b.tree w) c.self.view_is
    (in_both c.self.inside.off c.self.inside.on c.self.invariant never (c.can_be.ensures c.if-can_be.false) (c.can_be-else-can_be.ensures no))
