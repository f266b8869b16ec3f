-- The values of string, int and hex symbols: kconfig-language.rst, "Menu attributes", and Kconfiglib, "str_value". What
-- a range does to a value is this project's own.
use Rattle.std.specs.Prelude.{ℕ, Bool, true, false, not, ◌&&◌, ◌||◌, List, [], ◌++◌, Option, Some, None, if◌then◌else◌, option_map, unwrap_or, slice_get, find, filter_map, is_some, codes, ℤ, pos, int_lt, unsigned_abs}
use Rattle.std.specs.Fmt.{signed_decimal, digits}
use Rattle.std.specs.Option.{option_map_or}
use Rattle.kc_statement.specs.declared.tri.Tri.{Tri}
use Rattle.kc_statement.specs.declared.tri.Tri.TheVariants.{No, Module, Yes}
use Rattle.kc_statement.specs.declared.expr.Expr.{Expr}
use Rattle.kc_statement.specs.declared.attribute.Range.{Range}
use Rattle.kc_statement.specs.declared.symbol_type.SymbolType.{SymbolType}
use Rattle.kc_statement.specs.declared.symbol_type.SymbolType.TheVariants as kind
use Rattle.kc_tree.specs.declared.user_value.UserVal.{UserVal}
use Rattle.kc_tree.specs.declared.user_value.UserVal.TheVariants.{Tri as TriVal, Text}
use Rattle.kc_statement.specs.Grammar.{lone_term}
use Rattle.kc_statement.specs.Numerals.{numeral_in}
use Rattle.kc_statement.specs.Tristate.{is_no}
use Rattle.kc_outline.specs.TreeValue.{TreeValue, SymbolValue, DefinitionValue, kind_of, definitions_of}
use Rattle.kc_value.specs.declared.value.Value.{Value}
use Rattle.kc_value.specs.declared.value.Value.TheVariants.{Shown}
use Rattle.kc_value.specs.declared.bounds.Bounds.{Bounds}
use Rattle.kc_value.specs.Assignment.{Assignment}
use Rattle.kc_value.specs.ExprValue.{term_text}
use Rattle.kc_tree.specs.ConditionTable.{of_property}
use Rattle.kc_value.specs.Conditions.{condition_value}
use Rattle.kc_value.specs.Defaults.{is_active}

-- ---- defaults
-- the text of a default: that of the one term that it is
abbrev pub value_text : TreeValue → Assignment → Expr → List ℕ
value_text t a e = option_map_or (term_text t a) (lone_term e) []

-- the text of the first active default of a definition, if one is active
abbrev pub definition_text : TreeValue → Assignment → DefinitionValue → Option (List ℕ)
definition_text t a d = option_map (λ v. value_text t a v.value) (find (is_active t a d) d.defaults)

-- that of the first definition with one, if a default is active
abbrev pub default_text : TreeValue → Assignment → SymbolValue → Option (List ℕ)
default_text t a x = slice_get (filter_map (definition_text t a) (definitions_of t x)) 0

-- ---- ranges
-- a text that is no numeral of the type counts as 0
abbrev pub number_or_zero : SymbolType → List ℕ → ℤ
number_or_zero k w = unwrap_or (numeral_in k w) (pos 0)

abbrev pub range_condition : TreeValue → Assignment → DefinitionValue → Range → Tri
range_condition t a d r = condition_value t a (of_property t d r.condition)

abbrev pub is_range_active : TreeValue → Assignment → DefinitionValue → Range → Bool
is_range_active t a d r = not (is_no (range_condition t a d r))

abbrev pub bounds_in : TreeValue → Assignment → SymbolType → Range → Bounds
bounds_in t a k r = record {
  low = number_or_zero k (term_text t a r.low);
  high = number_or_zero k (term_text t a r.high);
}

-- the bounds of the first active range of a definition, if one is active
abbrev pub definition_bounds : TreeValue → Assignment → SymbolType → DefinitionValue → Option Bounds
definition_bounds t a k d = option_map (bounds_in t a k) (find (is_range_active t a d) d.ranges)

-- whether the values of a type are numerals
abbrev pub is_number_type : SymbolType → Bool
is_number_type kind.Int = true
is_number_type kind.Hex = true
is_number_type _ = false

-- those of the first definition with one; a string has none
abbrev pub bounds_of : TreeValue → Assignment → SymbolValue → Option Bounds
bounds_of t a x =
    if is_number_type (kind_of x) then slice_get (filter_map (definition_bounds t a (kind_of x)) (definitions_of t x)) 0
    else None

abbrev pub is_inside : Option Bounds → ℤ → Bool
is_inside None n = true
is_inside (Some b) n = not (int_lt n b.low) && not (int_lt b.high n)

-- a bound as it is spelt: decimal digits for an int, `0x` and lower-case digits for a hex
abbrev pub spelled : SymbolType → ℤ → List ℕ
spelled kind.Hex n = codes "0x" ++ digits 16 false (unsigned_abs n)
spelled _ n = signed_decimal n

-- below the low bound the low bound, else above the high bound the high bound; else as it is spelt
abbrev pub clamped : SymbolType → Option Bounds → List ℕ → List ℕ
clamped k None w = w
clamped k (Some b) w =
    if int_lt (number_or_zero k w) b.low then spelled k b.low
    else (if int_lt b.high (number_or_zero k w) then spelled k b.high else w)

-- ---- the value
-- what the user gave, where the symbol is visible and the value is inside the range
abbrev pub within : SymbolType → Option Bounds → List ℕ → Option (List ℕ)
within k bounds w = if is_inside bounds (number_or_zero k w) then Some w else None

abbrev pub user_text : SymbolType → Option Bounds → Tri → Option UserVal → Option (List ℕ)
user_text k bounds No u = None
user_text k bounds Module (Some (TriVal v)) = None
user_text k bounds Module (Some (Text w)) = within k bounds w
user_text k bounds Module None = None
user_text k bounds Yes (Some (TriVal v)) = None
user_text k bounds Yes (Some (Text w)) = within k bounds w
user_text k bounds Yes None = None

-- the user's value, else the first active default or the empty text, which the range clamps
abbrev pub text_value : TreeValue → Assignment → SymbolValue → Tri → Option UserVal → List ℕ
text_value t a x vis u = unwrap_or (user_text (kind_of x) (bounds_of t a x) vis u)
    (clamped (kind_of x) (bounds_of t a x) (unwrap_or (default_text t a x) []))

-- a symbol has its line where it is visible or a default is active
abbrev pub has_text_line : TreeValue → Assignment → SymbolValue → Tri → Bool
has_text_line t a x vis = not (is_no vis) || is_some (default_text t a x)

abbrev pub text_rule : TreeValue → Assignment → SymbolValue → Tri → Option UserVal → Value
text_rule t a x vis u = Shown (Text (text_value t a x vis u)) (has_text_line t a x vis)
