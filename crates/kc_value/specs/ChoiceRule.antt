-- The mode and the selection of a choice: kconfig-language.rst, "choices", and Kconfiglib, "selection".
use Rattle.std.specs.Prelude.{Bool, false, not, ◌&&◌, ◌||◌, ◌==◌, Option, Some, None, is_some, option_and_then, if◌then◌else◌, find, filter_map, slice_get}
use Rattle.std.specs.Option.{option_map_or, option_or}
use Rattle.kc_statement.specs.declared.id.SymId.{SymId}
use Rattle.kc_outline.specs.declared.id.ChoiceId.{ChoiceId}
use Rattle.kc_statement.specs.declared.tri.Tri.{Tri}
use Rattle.kc_outline.specs.declared.choice.ChoiceDefault.{ChoiceDefault}
use Rattle.kc_tree.specs.declared.node.Node.TheVariants.{Vis, Mode, Sel}
use Rattle.kc_tree.specs.declared.user_value.UserVal.TheVariants.{Tri as TriVal}
use Rattle.kc_statement.specs.Tristate.{is_no}
use Rattle.kc_outline.specs.TreeValue.{TreeValue, ChoiceValue}
use Rattle.kc_value.specs.declared.value.Value.{Value}
use Rattle.kc_value.specs.declared.value.Value.TheVariants.{Shown}
use Rattle.kc_value.specs.Assignment.{Assignment, as_tri, as_member}
use Rattle.kc_tree.specs.ConditionTable.{of_choice_default}
use Rattle.kc_value.specs.ExprValue.{yes_if}
use Rattle.kc_value.specs.Conditions.{condition_value, choice_prompt_value}

-- ---- mode: y where the prompt's condition is not n and, in an optional choice, the user chose a member
abbrev pub mode : TreeValue → Assignment → ChoiceValue → Option SymId → Tri
mode t a x chosen =
    yes_if (not (is_no (choice_prompt_value t a x)) && (not x.is_optional || is_some chosen))

-- ---- selection
-- whether a symbol of the tree is visible
abbrev pub is_visible : TreeValue → Assignment → SymId → Bool
is_visible t a s = option_map_or (λ x. not (is_no (as_tri (a (Vis s))))) (slice_get t.symbols s.0) false

abbrev pub is_symbol : Option SymId → SymId → Bool
is_symbol None s = false
is_symbol (Some r) s = r.0 == s.0

-- the chosen member, where the mode is y and the member is visible
abbrev pub chosen_member : TreeValue → Assignment → ChoiceId → ChoiceValue → Option SymId → Option SymId
chosen_member t a c x chosen =
    if is_no (as_tri (a (Mode c))) then None else find (λ s. is_symbol chosen s && is_visible t a s) x.members

-- the member of a default that is active and whose member is visible
abbrev pub visible_if : TreeValue → Bool → Assignment → Option SymId → Option SymId
visible_if t active a s = option_and_then (λ m. if active && is_visible t a m then Some m else None) s

abbrev pub default_member : TreeValue → Assignment → ChoiceDefault → Option SymId
default_member t a d = visible_if t (not (is_no (condition_value t a (of_choice_default d)))) a d.symbol

-- the chosen member, else that of the first such default, else the first that is visible, else none
abbrev pub selection : TreeValue → Assignment → ChoiceId → ChoiceValue → Option SymId → Option SymId
selection t a c x chosen =
    option_or (chosen_member t a c x chosen)
    (option_or (slice_get (filter_map (default_member t a) x.defaults) 0) (find (is_visible t a) x.members))

-- ---- the value of a member: y where its choice selects it; it has its line where it is visible
abbrev pub selected_in : TreeValue → Assignment → ChoiceId → Option SymId
selected_in t a c = option_and_then (λ x. as_member (a (Sel c))) (slice_get t.choices c.0)

abbrev pub member_rule : TreeValue → Assignment → ChoiceId → SymId → Tri → Value
member_rule t a c s vis = Shown (TriVal (yes_if (is_symbol (selected_in t a c) s))) (not (is_no vis))
