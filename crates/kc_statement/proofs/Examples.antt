-- What the definitions give for single lines.
use Rattle.std.proofs.Common.{◌≡◌, ℕ, ◌-◌, ◌^◌, List, [], ◌∷◌, Some, None, codes, refl}
use Rattle.std.specs.Prelude.{pos, neg_ℤ}
use Rattle.kc_text.specs.LineValue.{LineValue}
use Rattle.kc_text.specs.declared.line.LineKind.TheVariants.{Statement}
use Rattle.kc_text.specs.declared.line.Operator.TheVariants as sign
use Rattle.kc_text.specs.declared.line.Token.{Token}
use Rattle.kc_text.specs.declared.line.Token.TheVariants.{Word, Quoted, Operator}
use Rattle.kc_statement.specs.declared.expr.Comparison.TheVariants as comparison
use Rattle.kc_statement.specs.declared.expr.ExprKind.TheVariants.{Condition, Value}
use Rattle.kc_statement.specs.declared.expr.Term.{Term}
use Rattle.kc_statement.specs.declared.expr.Term.TheVariants.{Tri, Text, Symbol, Undefined}
use Rattle.kc_statement.specs.declared.tri.Tri.TheVariants.{Module, Yes}
use Rattle.kc_statement.specs.declared.expr.Expr.{Expr}
use Rattle.kc_statement.specs.declared.attribute.Range.{Range}
use Rattle.kc_statement.specs.declared.keyword.Keyword.TheVariants as keyword
use Rattle.kc_statement.specs.declared.statement.Statement.TheVariants as statement
use Rattle.kc_statement.specs.Grammar.{Derives, atom, bare, compare, negation, both, either, group, term, symbol_of, term_alone, lone_term}
use Rattle.kc_statement.specs.Statements.{HasForm}
use Rattle.kc_statement.specs.Numerals.{int_numeral, hex_numeral}
use Rattle.kc_statement.specs.Names.{names_of}

abbrev line : ℕ → List Token → LineValue
line run tokens = record { path = codes "Kconfig"; number = 1; run = run; kind = Statement; tokens = tokens; help = None }

abbrev word : List ℕ → Token
word w = Word w

abbrev config : List ℕ → LineValue
config name = line 0 (word (codes "config") ∷ word name ∷ [])

-- ---- names: each at its first definition
names_in_order : names_of (config (codes "B") ∷ config (codes "A") ∷ config (codes "B") ∷ config (codes "n") ∷ []) ≡ codes "B" ∷ codes "A" ∷ []
names_in_order = refl

-- ---- expressions: `!A = y && (m || B)`
not_equal_and_group : Derives Condition (codes "A" ∷ [])
    (Operator sign.Not ∷ word (codes "A") ∷ Operator sign.Equal ∷ word (codes "y") ∷ Operator sign.And
    ∷ Operator sign.Open ∷ word (codes "m") ∷ Operator sign.Or ∷ word (codes "B") ∷ Operator sign.Close ∷ [])
    (both (negation (compare comparison.Equal (Symbol (record { 0 = 0 })) (Tri Yes)))
    (group (either (bare (Tri Module)) (atom (Undefined (codes "B"))))))
not_equal_and_group = record { level = (tt, (refl, refl)); is = refl }

-- ---- terms: `(A)` is one in its parentheses, and none without dropping them
in_parentheses : (x : Term) → lone_term (group (atom x)) ≡ Some x
in_parentheses x = refl

not_alone : (f : Expr) → term_alone (group f) ≡ None
not_alone f = refl

-- ---- bare m: in `if "m" && A = m` the first alone, and in `default m` none
bare_in_condition : Derives Condition (codes "A" ∷ [])
    (Quoted (codes "m") ∷ Operator sign.And ∷ word (codes "A") ∷ Operator sign.Equal ∷ word (codes "m") ∷ [])
    (both (bare (Text (codes "m"))) (compare comparison.Equal (Symbol (record { 0 = 0 })) (Tri Module)))
bare_in_condition = record { level = (refl, tt); is = refl }

not_bare_in_value : Derives Value [] (word (codes "m") ∷ []) (atom (Tri Module))
not_bare_in_value = record { level = refl; is = refl }

-- `'y'` is a text
quoted_constant : symbol_of [] (Quoted (codes "y")) ≡ term (Text (codes "y"))
quoted_constant = refl

-- ---- forms: `range 1 5`, and `default A`
abbrev one_to_five : Range
one_to_five = record { low = Undefined (codes "1"); high = Undefined (codes "5"); condition = None }

range_of_two : HasForm [] (line 0 (word (codes "range") ∷ word (codes "1") ∷ word (codes "5") ∷ [])) (statement.Range one_to_five)
unfolding HasForm
range_of_two = (keyword.Range, refl, (refl, (word (codes "1"), word (codes "5"), [], refl, refl, refl, refl)))

default_of_a_name : HasForm (codes "A" ∷ []) (line 0 (word (codes "default") ∷ word (codes "A") ∷ []))
    (statement.Default (record { value = atom (Symbol (record { 0 = 0 })); condition = None }))
unfolding HasForm
default_of_a_name =
    (keyword.Default, refl, (refl, (word (codes "A") ∷ [], [], refl, record { level = refl; is = refl }, refl)))

-- ---- numerals: the edges of both types
int_lowest : int_numeral (codes "-9223372036854775808") ≡ Some (neg_ℤ (pos (2 ^ 63)))
int_lowest = refl

int_below : int_numeral (codes "-9223372036854775809") ≡ None
int_below = refl

int_highest : int_numeral (codes "9223372036854775807") ≡ Some (pos (2 ^ 63 - 1))
int_highest = refl

int_above : int_numeral (codes "9223372036854775808") ≡ None
int_above = refl

int_minus_zero : int_numeral (codes "-0") ≡ Some (pos 0)
int_minus_zero = refl

int_leading_zeros : int_numeral (codes "007") ≡ Some (pos 7)
int_leading_zeros = refl

int_of_no_digits : int_numeral (codes "-") ≡ None
int_of_no_digits = refl

hex_highest : hex_numeral (codes "0xffffffffffffffff") ≡ Some (pos (2 ^ 64 - 1))
hex_highest = refl

hex_above : hex_numeral (codes "0x10000000000000000") ≡ None
hex_above = refl

hex_capital_sign : hex_numeral (codes "0X1f") ≡ Some (pos 31)
hex_capital_sign = refl

hex_without_sign : hex_numeral (codes "1F") ≡ Some (pos 31)
hex_without_sign = refl
