-- What a node gets from the values of the nodes that it uses: kconfig-language.rst, "Menu attributes", and the
-- computation of Kconfiglib.
use Rattle.std.specs.Prelude.{Bool, not, ◌&&◌, ◌||◌, List, Option, Some, None, if◌then◌else◌, option_map, unwrap_or, slice_get, map, find, filter_map}
use Rattle.std.specs.Option.{option_map_or}
use Rattle.kc_statement.specs.declared.tri.Tri.{Tri}
use Rattle.kc_statement.specs.declared.tri.Tri.TheVariants.{No, Module, Yes}
use Rattle.kc_statement.specs.declared.id.SymId.{SymId}
use Rattle.kc_outline.specs.declared.symbol.Reverse.{Reverse}
use Rattle.kc_statement.specs.declared.symbol_type.SymbolType.TheVariants.{Tristate}
use Rattle.kc_tree.specs.declared.node.Node.{Node}
use Rattle.kc_tree.specs.declared.node.Node.TheVariants.{Vis, Val, Mode, Sel}
use Rattle.kc_tree.specs.declared.user_value.UserVal.{UserVal}
use Rattle.kc_tree.specs.declared.user_value.UserVal.TheVariants.{Tri as TriVal, Text}
use Rattle.kc_statement.specs.Tristate.{least, greatest, greatest_of, is_no}
use Rattle.kc_outline.specs.TreeValue.{same_type}
use Rattle.kc_outline.specs.TreeValue.{TreeValue, SymbolValue, DefinitionValue, kind_of, definitions_of}
use Rattle.kc_value.specs.declared.value.Value.{Value}
use Rattle.kc_value.specs.declared.value.Value.TheVariants.{Tri as Level, Shown, Member}
use Rattle.kc_value.specs.Assignment.{Assignment, as_tri}
use Rattle.kc_value.specs.UserValues.{UserValues, user_value, chosen_in}
use Rattle.kc_value.specs.ExprValue.{symbol_tri, modules_value, expr_value}
use Rattle.kc_tree.specs.ConditionTable.{of_member, of_reverse}
use Rattle.kc_value.specs.Conditions.{condition_value, dependency, prompt_value}
use Rattle.kc_value.specs.Defaults.{default_condition, is_active}
use Rattle.kc_value.specs.TextRule.{text_rule}
use Rattle.kc_value.specs.ChoiceRule.{mode, selection, member_rule}
use Rattle.kc_statement.specs.SymbolTypes.{is_tri_type}

-- ---- types
-- a bool knows no m: it stands for y
abbrev pub in_bool : Tri → Tri
in_bool No = No
in_bool Module = Yes
in_bool Yes = Yes

-- a tristate acts as bool where MODULES is n
abbrev pub has_modules : TreeValue → Assignment → SymbolValue → Bool
has_modules t a x = same_type (kind_of x) Tristate && not (is_no (modules_value t a))

abbrev pub in_type : Bool → Tri → Tri
in_type has v = if has then v else in_bool v

-- ---- visibility: the greatest condition of the prompts; of a member, within the mode of its choice
abbrev pub visibility : TreeValue → Assignment → SymbolValue → Tri
visibility t a x = in_type (has_modules t a x)
    (least (greatest_of (map (prompt_value t a) (definitions_of t x))) (condition_value t a (of_member x)))

-- ---- defaults
-- the least of the value and the condition of the first active default of a definition, if one is active
abbrev pub definition_default : TreeValue → Assignment → DefinitionValue → Option Tri
definition_default t a d =
    option_map (λ v. least (expr_value t a v.value) (default_condition t a d v)) (find (is_active t a d) d.defaults)

-- that of the first definition with one, n without
abbrev pub default_value : TreeValue → Assignment → SymbolValue → Tri
default_value t a x = unwrap_or (slice_get (filter_map (definition_default t a) (definitions_of t x)) 0) No

-- ---- select, imply and dependencies
-- the least of the value of the symbol that selects or implies, and the condition
abbrev pub reverse_value : TreeValue → Assignment → Reverse → Tri
reverse_value t a r = least (symbol_tri t a r.by) (condition_value t a (of_reverse t r))

abbrev pub reverse_values : TreeValue → Assignment → List Reverse → Tri
reverse_values t a rs = greatest_of (map (reverse_value t a) rs)

-- the greatest of the dependencies of its definitions
abbrev pub direct : TreeValue → Assignment → SymbolValue → Tri
direct t a x = greatest_of (map (dependency t a) (definitions_of t x))

-- ---- the value
-- what the user chose, as far as the visibility allows: nothing where the symbol is invisible, whose
-- user value is kept and waits, and nothing for a text, which no bool or tristate takes
abbrev pub user_part : Tri → Option UserVal → Option Tri
user_part No u = None
user_part Module (Some (TriVal v)) = Some (least v Module)
user_part Module (Some (Text w)) = None
user_part Module None = None
user_part Yes (Some (TriVal v)) = Some (least v Yes)
user_part Yes (Some (Text w)) = None
user_part Yes None = None

-- the user's value where the symbol is visible, else the default or what is implied, within the dependencies
abbrev pub base_value : TreeValue → Assignment → SymbolValue → Tri → Option UserVal → Tri
base_value t a x vis u = unwrap_or (user_part vis u)
    (least (greatest (default_value t a x) (reverse_values t a x.implied)) (direct t a x))

-- at least what is selected, which passes over the dependencies
abbrev pub shown_value : TreeValue → Assignment → SymbolValue → Tri → Option UserVal → Tri
shown_value t a x vis u =
    in_type (has_modules t a x) (greatest (base_value t a x vis u) (reverse_values t a x.selected))

-- a symbol has its line where it is visible, or a default, an `imply` within the dependencies or a `select` gives it
-- a value
abbrev pub has_line : TreeValue → Assignment → SymbolValue → Tri → Bool
has_line t a x vis =
    not (is_no vis) || not (is_no (default_value t a x))
    || (not (is_no (reverse_values t a x.implied)) && not (is_no (direct t a x)))
    || not (is_no (reverse_values t a x.selected))

-- of a bool or a tristate
abbrev pub tri_rule : TreeValue → Assignment → SymbolValue → Tri → Option UserVal → Value
tri_rule t a x vis u = Shown (TriVal (shown_value t a x vis u)) (has_line t a x vis)

-- ---- all nodes
-- of a symbol that is no member of a choice
abbrev pub free_rule : TreeValue → Assignment → SymbolValue → Tri → Option UserVal → Value
free_rule t a x vis u = if is_tri_type (kind_of x) then tri_rule t a x vis u else text_rule t a x vis u

abbrev pub symbol_rule : TreeValue → Assignment → SymId → SymbolValue → Tri → Option UserVal → Value
symbol_rule t a s x vis u = option_map_or (λ c. member_rule t a c s vis) x.choice (free_rule t a x vis u)

unfoldable pub rule : TreeValue → UserValues → Assignment → Node → Value
rule t u a (Vis s) = option_map_or (λ x. Level (visibility t a x)) (slice_get t.symbols s.0) (Level No)
rule t u a (Val s) = option_map_or (λ x. symbol_rule t a s x (as_tri (a (Vis s))) (user_value u s)) (slice_get t.symbols s.0) (Level No)
rule t u a (Mode c) = option_map_or (λ x. Level (mode t a x (chosen_in u c))) (slice_get t.choices c.0) (Level No)
rule t u a (Sel c) = option_map_or (λ x. Member (selection t a c x (chosen_in u c))) (slice_get t.choices c.0) (Level No)
