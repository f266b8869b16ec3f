-- The value of an expression: kconfig-language.rst, "Menu dependencies", and Kconfiglib, "expr_value".
use Rattle.std.specs.Prelude.{ℕ, zero, suc, Bool, true, false, ◌&&◌, List, Option, Some, None, option_map, if◌then◌else◌, map, unwrap_or, slice_get, codes, ℤ, pos}
use Rattle.std.specs.Option.{option_map_or, option_or}
use Rattle.std.specs.Str.{bytes_eq}
use Rattle.std.specs.Cmp.Lexicographic.{slice_cmp}
use Rattle.std.specs.declared.cmp.Ordering.{Ordering}
use Rattle.std.specs.Ordering.{nat_cmp, int_cmp, is_eq, is_ne, is_lt, is_le, is_gt, is_ge}
use Rattle.kc_statement.specs.declared.id.SymId.{SymId}
use Rattle.kc_statement.specs.declared.tri.Tri.{Tri}
use Rattle.kc_statement.specs.declared.tri.Tri.TheVariants.{No, Module, Yes}
use Rattle.kc_statement.specs.declared.expr.Term.{Term}
use Rattle.kc_statement.specs.declared.expr.Term.TheVariants.{Tri as Constant, Text, Symbol, Undefined}
use Rattle.kc_statement.specs.declared.expr.Comparison.{Comparison}
use Rattle.kc_statement.specs.declared.expr.Comparison.TheVariants as comparison
use Rattle.kc_statement.specs.declared.expr.Expr.{Expr}
use Rattle.kc_tree.specs.declared.node.Node.TheVariants.{Val}
use Rattle.kc_statement.specs.Formula.{Formula, atom, bare, compare, negation, group, both, either}
use Rattle.kc_statement.specs.Tristate.{least, greatest, least_of, complement}
use Rattle.kc_statement.specs.declared.symbol_type.SymbolType.{SymbolType}
use Rattle.kc_statement.specs.declared.symbol_type.SymbolType.TheVariants as kind
use Rattle.kc_statement.specs.Numerals.{numeral_in}
use Rattle.kc_outline.specs.TreeValue.{same_type}
use Rattle.kc_outline.specs.TreeValue.{TreeValue, modules_symbol, kind_of}
use Rattle.kc_value.specs.declared.value.Value.{Value}
use Rattle.kc_value.specs.Assignment.{Assignment, as_tri, as_text, tri_letter}
use Rattle.kc_value.specs.Numerals.{number_of_text}

-- ---- terms
-- a symbol stands for its value
abbrev pub symbol_tri : TreeValue → Assignment → SymId → Tri
symbol_tri t a s = option_map_or (λ x. as_tri (a (Val s))) (slice_get t.symbols s.0) No

-- the value of MODULES, n where it is not defined
abbrev pub modules_value : TreeValue → Assignment → Tri
modules_value t a = option_map_or (symbol_tri t a) (modules_symbol t) No

-- the texts n, m and y in quotes are constants too
abbrev pub constant_of : List ℕ → Option Tri
constant_of w =
    if bytes_eq w (codes "n") then Some No
    else (if bytes_eq w (codes "m") then Some Module
    else (if bytes_eq w (codes "y") then Some Yes else None))

-- a constant stands for itself, in quotes too, another text and an undefined word for n
abbrev pub term_tri : TreeValue → Assignment → Term → Tri
term_tri t a (Constant v) = v
term_tri t a (Text w) = unwrap_or (constant_of w) No
term_tri t a (Symbol s) = symbol_tri t a s
term_tri t a (Undefined w) = No

-- ---- comparisons
-- the text of a symbol is its value
abbrev pub symbol_text : TreeValue → Assignment → SymId → List ℕ
symbol_text t a s = option_map_or (λ x. as_text (a (Val s))) (slice_get t.symbols s.0) (tri_letter No)

-- the text of a constant is itself, that of a symbol its value, that of an undefined word its name
abbrev pub term_text : TreeValue → Assignment → Term → List ℕ
term_text t a (Constant v) = tri_letter v
term_text t a (Text w) = w
term_text t a (Symbol s) = symbol_text t a s
term_text t a (Undefined w) = w

abbrev pub tri_number : Tri → ℤ
tri_number No = pos 0
tri_number Module = pos 1
tri_number Yes = pos 2

-- a value counts by the type of its symbol: an int and a hex where their text is a numeral of the type, a string as
-- a text does
abbrev pub number_in_type : SymbolType → Value → Option ℤ
number_in_type kind.Bool v = Some (tri_number (as_tri v))
number_in_type kind.Tristate v = Some (tri_number (as_tri v))
number_in_type kind.String v = number_of_text (as_text v)
number_in_type kind.Int v = numeral_in kind.Int (as_text v)
number_in_type kind.Hex v = numeral_in kind.Hex (as_text v)

abbrev pub symbol_number : TreeValue → Assignment → SymId → Option ℤ
symbol_number t a s = option_map_or (λ x. number_in_type (kind_of x) (a (Val s))) (slice_get t.symbols s.0) (Some (tri_number No))

-- n, m and y count 0, 1 and 2; another text counts where it spells a number
abbrev pub term_number : TreeValue → Assignment → Term → Option ℤ
term_number t a (Constant v) = Some (tri_number v)
term_number t a (Text w) = option_or (option_map tri_number (constant_of w)) (number_of_text w)
term_number t a (Symbol s) = symbol_number t a s
term_number t a (Undefined w) = number_of_text w

-- the term is a symbol of type string
abbrev pub is_string_term : TreeValue → Term → Bool
is_string_term t (Constant v) = false
is_string_term t (Text w) = false
is_string_term t (Symbol s) = option_map_or (λ x. same_type (kind_of x) kind.String) (slice_get t.symbols s.0) false
is_string_term t (Undefined w) = false

-- numbers are compared where both terms count, else texts by their bytes
abbrev pub number_or_text_order : Option ℤ → Option ℤ → Ordering → Ordering
number_or_text_order (Some x) (Some y) texts = int_cmp x y
number_or_text_order (Some x) None texts = texts
number_or_text_order None y texts = texts

abbrev pub text_order : TreeValue → Assignment → Term → Term → Ordering
text_order t a x y = slice_cmp nat_cmp (term_text t a x) (term_text t a y)

-- two symbols of type string are compared as texts
abbrev pub term_order : TreeValue → Assignment → Term → Term → Ordering
term_order t a x y =
    if is_string_term t x && is_string_term t y then text_order t a x y
    else number_or_text_order (term_number t a x) (term_number t a y) (text_order t a x y)

abbrev pub is_related : Comparison → Ordering → Bool
is_related comparison.Equal o = is_eq o
is_related comparison.NotEqual o = is_ne o
is_related comparison.Less o = is_lt o
is_related comparison.LessOrEqual o = is_le o
is_related comparison.Greater o = is_gt o
is_related comparison.GreaterOrEqual o = is_ge o

abbrev pub yes_if : Bool → Tri
yes_if true = Yes
yes_if false = No

-- a value after a number of `!`: each is the complement of what comes after it
abbrev pub complements : ℕ → Tri → Tri
complements zero v = v
complements (suc n) v = complement (complements n v)

-- ---- expressions
-- a bare m means m && MODULES
abbrev pub formula_value : TreeValue → Assignment → Formula → Tri
formula_value t a (atom x) = term_tri t a x
formula_value t a (bare x) = least Module (modules_value t a)
formula_value t a (compare c x y) = yes_if (is_related c (term_order t a x y))
formula_value t a (negation f) = complement (formula_value t a f)
formula_value t a (group f) = formula_value t a f
formula_value t a (both f g) = least (formula_value t a f) (formula_value t a g)
formula_value t a (either f g) = greatest (formula_value t a f) (formula_value t a g)

abbrev pub expr_value : TreeValue → Assignment → Expr → Tri
expr_value t a e = formula_value t a e

-- several lines are joined by `&&`
abbrev pub conditions_value : TreeValue → Assignment → List Expr → Tri
conditions_value t a es = least_of (map (expr_value t a) es)

-- the condition after `if`, y where there is none
abbrev pub own_condition : TreeValue → Assignment → Option Expr → Tri
own_condition t a None = Yes
own_condition t a (Some e) = expr_value t a e
