-- One edit of the user values: this project's own.
use Rattle.std.specs.Prelude.{◌≡◌, true, Some, ⊤}
use Rattle.kc_outline.specs.TreeValue.{TreeValue}
use Rattle.kc_tree.specs.declared.node.Node.TheVariants.{Val, Sel}
use Rattle.kc_tree.specs.declared.user_value.UserVal.{UserVal}
use Rattle.kc_tree.specs.Fits.{fits}
use Rattle.kc_tree.specs.Nodes.{IsNodeOf}
use Rattle.kc_value.specs.declared.change.Change.{Change}
use Rattle.kc_value.specs.declared.change.Change.TheVariants.{Value, Chosen, All}
use Rattle.kc_value.specs.declared.change.NewUser.{NewUser}
use Rattle.kc_value.specs.declared.change.NewUser.TheVariants.{Nothing, EachTri, Other}
use Rattle.kc_value.specs.AllValues.{all_given}
use Rattle.kc_value.specs.UserValues.{UserValues, IsUserFor, no_values, with_value, with_chosen}

-- the user values where all become others
abbrev pub new_user : TreeValue → NewUser → UserValues
new_user t Nothing = no_values t
new_user t (EachTri a) = all_given t a
new_user t (Other u) = u

-- the user values after an edit
abbrev pub changed : TreeValue → UserValues → Change → UserValues
changed t u (Value s v) = with_value u s v
changed t u (Chosen c m) = with_chosen u c m
changed t u (All n) = new_user t n

-- the edit is one of a user of this tree: it names symbols and choices of it, and gives a symbol what that takes
abbrev pub IsNewUserFor : TreeValue → NewUser → Type 0
IsNewUserFor t Nothing = ⊤
IsNewUserFor t (EachTri a) = ⊤
IsNewUserFor t (Other u) = IsUserFor t u

abbrev pub IsChangeFor : TreeValue → Change → Type 0
IsChangeFor t (Value s v) = IsNodeOf t (Val s) × ((x : UserVal) → v ≡ Some x → fits t s x ≡ true)
IsChangeFor t (Chosen c m) = IsNodeOf t (Sel c)
IsChangeFor t (All n) = IsNewUserFor t n
