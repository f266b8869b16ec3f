-- Which values an edit of the user values can change: this project's own.
use Rattle.std.specs.Prelude.{◌≡◌, ◌⊎◌, Bool, true, false, not, ◌&&◌, Option, Some, None, is_some}
use Rattle.kc_statement.specs.declared.id.SymId.{SymId}
use Rattle.kc_outline.specs.declared.id.ChoiceId.{ChoiceId}
use Rattle.kc_outline.specs.TreeValue.{TreeValue, choice_of}
use Rattle.kc_tree.specs.declared.node.Node.{Node}
use Rattle.kc_tree.specs.declared.node.Node.TheVariants.{Vis, Val, Mode, Sel}
use Rattle.kc_tree.specs.declared.user_value.UserVal.{UserVal}
use Rattle.kc_tree.specs.Nodes.{IsNodeOf}
use Rattle.kc_tree.specs.Reached.{Leads}
use Rattle.kc_value.specs.Assignment.{value_at}
use Rattle.kc_value.specs.ChangedValue.{same_mark, same_user_value, same_member}
use Rattle.kc_value.specs.Kept.{KeptValue}
use Rattle.kc_value.specs.UserValues.{UserValues, user_value, chosen_in}
use Rattle.kc_value.specs.Without.{is_optional_choice}

-- the same user value, as it is spelt, or none
abbrev pub same_given : Option UserVal → Option UserVal → Bool
same_given None None = true
same_given None (Some w) = false
same_given (Some v) None = false
same_given (Some v) (Some w) = same_user_value v w

-- What changes where user values become others: the value of each symbol whose user value is another, but for members of
-- choices; the selection of each choice whose chosen member is another; and the mode of each optional choice of which
-- a member is chosen before or afterwards alone.
abbrev pub is_changed : TreeValue → UserValues → UserValues → Node → Bool
is_changed t u w (Vis s) = false
is_changed t u w (Val s) = not (is_some (choice_of t s)) && not (same_given (user_value u s) (user_value w s))
is_changed t u w (Mode c) = is_optional_choice t c && not (same_mark (is_some (chosen_in u c)) (is_some (chosen_in w c)))
is_changed t u w (Sel c) = not (same_member (chosen_in u c) (chosen_in w c))

-- a node that is computed from one that changes, through others or itself
abbrev pub IsDirty : TreeValue → UserValues → UserValues → Node → Type 0
IsDirty t u w n = (c : Node) × IsNodeOf t c × (is_changed t u w c ≡ true) × Leads t n c

-- an edit drops the dirty nodes and no others, and evaluates nothing
pub record Edits (t : TreeValue) (u w : UserValues) (old new : KeptValue) : Type 0 where
  pub dropped : (n : Node) → IsNodeOf t n → IsDirty t u w n → value_at t new.values n ≡ None
  pub each : (n : Node) → IsNodeOf t n
      → (value_at t new.values n ≡ value_at t old.values n) ⊎ ((value_at t new.values n ≡ None) × IsDirty t u w n)
  pub evals : new.evals ≡ old.evals

-- User values that become others and then others again: each place has at most once another value than before.
pub record ChangesEachOnce (u v w : UserValues) : Type 0 where
  pub values : (s : SymId) → (user_value v s ≡ user_value u s) ⊎ (user_value w s ≡ user_value v s)
  pub chosen : (c : ChoiceId) → (chosen_in v c ≡ chosen_in u c) ⊎ (chosen_in w c ≡ chosen_in v c)
