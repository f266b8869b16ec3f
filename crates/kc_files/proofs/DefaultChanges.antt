-- Without a user value or a chosen member nothing was changed.
use Rattle.std.proofs.Common.{◌≡◌, None, refl}
use Rattle.kc_statement.specs.declared.id.SymId.{SymId}
use Rattle.kc_outline.specs.declared.id.ChoiceId.{ChoiceId}
use Rattle.kc_outline.specs.TreeValue.{TreeValue}
use Rattle.kc_tree.specs.declared.node.Node.TheVariants.{Val, Sel}
use Rattle.kc_tree.specs.Nodes.{IsNodeOf}
use Rattle.kc_value.specs.ChangedValue.{changed_value, ChangesAreJustEnough}
use Rattle.kc_value.specs.UserValues.{UserValues, user_value, chosen_in}

pub own_value : (t : TreeValue) (u : UserValues) (s : SymId) → ChangesAreJustEnough t u → IsNodeOf t (Val s) → user_value u s ≡ None
    → changed_value t u (Val s) ≡ None
own_value t u s just node none = just.needed u (λ n inside owned. refl) s node none

pub own_member : (t : TreeValue) (u : UserValues) (c : ChoiceId) → ChangesAreJustEnough t u → IsNodeOf t (Sel c) → chosen_in u c ≡ None
    → changed_value t u (Sel c) ≡ None
own_member t u c just node none = just.needed_members u (λ n inside owned. refl) c node none
