-- The value that a node would have without its own user value or chosen member, all else as it is: this project's own.
use Rattle.std.specs.Prelude.{Bool, false, None, if◌then◌else◌, slice_get}
use Rattle.std.specs.Option.{option_map_or}
use Rattle.kc_outline.specs.declared.id.ChoiceId.{ChoiceId}
use Rattle.kc_tree.specs.declared.node.Node.{Node}
use Rattle.kc_tree.specs.declared.node.Node.TheVariants.{Vis, Val, Mode, Sel}
use Rattle.kc_outline.specs.TreeValue.{TreeValue}
use Rattle.kc_value.specs.declared.value.Value.{Value}
use Rattle.kc_value.specs.declared.value.Value.TheVariants.{Member}
use Rattle.kc_value.specs.UserValues.{UserValues, with_value, with_chosen}
use Rattle.kc_value.specs.Rule.{rule}
use Rattle.kc_value.specs.Solution.{solution}

-- the user values without that of the node's symbol, or the chosen member of a selection's choice; a visibility and a
-- mode have none of their own
abbrev pub user_without : UserValues → Node → UserValues
user_without u (Vis s) = u
user_without u (Val s) = with_value u s None
user_without u (Mode c) = u
user_without u (Sel c) = with_chosen u c None

-- an optional choice without a chosen member selects none: its mode would be n
abbrev pub is_optional_choice : TreeValue → ChoiceId → Bool
is_optional_choice t c = option_map_or (λ x. x.is_optional) (slice_get t.choices c.0) false

abbrev pub selects_none : TreeValue → Node → Bool
selects_none t (Vis s) = false
selects_none t (Val s) = false
selects_none t (Mode c) = false
selects_none t (Sel c) = is_optional_choice t c

unfoldable pub value_without : TreeValue → UserValues → Node → Value
value_without t u n =
    if selects_none t n then Member None else rule t (user_without u n) (solution t u) n

-- the user gives it a value of its own: a symbol's value, or a choice's selection
abbrev pub IsOwned : Node → Type 0
IsOwned (Vis s) = ⊥
IsOwned (Val s) = Unit {0}
IsOwned (Mode c) = ⊥
IsOwned (Sel c) = Unit {0}
