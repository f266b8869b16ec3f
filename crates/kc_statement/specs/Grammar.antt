-- The grammar of expressions: kconfig-language.rst, "Menu dependencies". A list of tokens is an expression where it
-- is one written out.
use Rattle.std.specs.Prelude.{◌≡◌, ℕ, Bool, true, false, List, [], ◌∷◌, ◌++◌, Option, Some, None, map, if◌then◌else◌, codes}
use Rattle.std.specs.Str.{bytes_eq}
use Rattle.kc_text.specs.declared.line.Operator.{Operator as Sign}
use Rattle.kc_text.specs.declared.line.Operator.TheVariants as sign
use Rattle.kc_text.specs.declared.line.Token.{Token}
use Rattle.kc_text.specs.declared.line.Token.TheVariants.{Word, Expanded, Quoted, Operator}
use Rattle.kc_statement.specs.declared.tri.Tri.TheVariants.{No, Module, Yes}
use Rattle.kc_statement.specs.declared.expr.Term.{Term}
use Rattle.kc_statement.specs.declared.expr.Term.TheVariants.{Tri, Text, Symbol as Named, Undefined}
use Rattle.kc_statement.specs.declared.expr.Comparison.{Comparison}
use Rattle.kc_statement.specs.declared.expr.Comparison.TheVariants as comparison
use Rattle.kc_statement.specs.Names.{word_term, quoted_term}
use Rattle.kc_statement.specs.declared.expr.ExprKind.{ExprKind}
use Rattle.kc_statement.specs.declared.expr.ExprKind.TheVariants.{Condition, Value}
pub use Rattle.kc_statement.specs.Formula.{Formula, atom, bare, compare, negation, group, both, either, joined, all_joined, any_joined, negations, is_plain, is_factor, is_part}

-- ---- what tokens are to the grammar
pub data Symbol : Type 0 where
  term : Term → Symbol
  compares : Comparison → Symbol
  bang : Symbol
  ampersands : Symbol
  bars : Symbol
  opening : Symbol
  closing : Symbol
  if_word : Symbol

abbrev pub sign_symbol : Sign → Symbol
sign_symbol sign.And = ampersands
sign_symbol sign.Or = bars
sign_symbol sign.Equal = compares comparison.Equal
sign_symbol sign.NotEqual = compares comparison.NotEqual
sign_symbol sign.Less = compares comparison.Less
sign_symbol sign.LessOrEqual = compares comparison.LessOrEqual
sign_symbol sign.Greater = compares comparison.Greater
sign_symbol sign.GreaterOrEqual = compares comparison.GreaterOrEqual
sign_symbol sign.Not = bang
sign_symbol sign.Open = opening
sign_symbol sign.Close = closing

-- by the names of the defined symbols; `if` as a word of its own is never a term
abbrev pub symbol_of : List (List ℕ) → Token → Symbol
symbol_of names (Word w) = if bytes_eq w (codes "if") then if_word else term (word_term names w)
symbol_of names (Expanded w) = term (word_term names w)
symbol_of names (Quoted q) = term (quoted_term q)
symbol_of names (Operator o) = sign_symbol o

abbrev pub symbols_of : List (List ℕ) → List Token → List Symbol
symbols_of names tokens = map (symbol_of names) tokens

-- ---- terms that stand alone
-- the constant m, as a word or in quotes
abbrev pub is_module_term : Term → Bool
is_module_term (Tri Module) = true
is_module_term (Tri No) = false
is_module_term (Tri Yes) = false
is_module_term (Text w) = bytes_eq w (codes "m")
is_module_term (Named s) = false
is_module_term (Undefined w) = false

-- whether a term is a bare m where it stands alone in an expression of this kind: in a value m is a term like any other
abbrev pub is_bare_in : ExprKind → Term → Bool
is_bare_in Condition x = is_module_term x
is_bare_in Value x = false

-- ---- expressions
-- which part of the grammar it can stand for
pub data Level : Type 0 where
  factor : Level
  part : Level
  expression : Level

-- parts are joined by `||`, factors by `&&`; what follows a `!` is a factor. In a condition an m is bare where it is no
-- side of a comparison
abbrev pub IsAt : ExprKind → Level → Formula → Type 0
IsAt k l (atom x) = is_bare_in k x ≡ false
IsAt k l (bare x) = is_bare_in k x ≡ true
IsAt k l (compare c x y) = Unit {0}
IsAt k l (negation f) = IsAt k factor f
IsAt k l (group f) = IsAt k expression f
IsAt k factor (both f g) = ⊥
IsAt k part (both f g) = IsAt k factor f × IsAt k part g
IsAt k expression (both f g) = IsAt k factor f × IsAt k part g
IsAt k factor (either f g) = ⊥
IsAt k part (either f g) = ⊥
IsAt k expression (either f g) = IsAt k part f × IsAt k expression g

-- as it is written
abbrev pub spelled : Formula → List Symbol
spelled (atom x) = term x ∷ []
spelled (bare x) = term x ∷ []
spelled (compare c x y) = term x ∷ compares c ∷ term y ∷ []
spelled (negation f) = bang ∷ spelled f
spelled (group f) = opening ∷ (spelled f ++ closing ∷ [])
spelled (both f g) = spelled f ++ ampersands ∷ spelled g
spelled (either f g) = spelled f ++ bars ∷ spelled g

-- the tokens are the expression of this kind written out
pub record Derives (kind : ExprKind) (names : List (List ℕ)) (tokens : List Token) (f : Formula) : Type 0 where
  pub level : IsAt kind Level.expression f
  pub is : symbols_of names tokens ≡ spelled f

-- the tokens are no expression
abbrev pub IsNoExpression : ExprKind → List (List ℕ) → List Token → Type 0
IsNoExpression kind names tokens = (f : Formula) → Derives kind names tokens f → ⊥

-- ---- an expression that is one term
-- it is asked of the values of defaults alone, where no m is bare: a bare m is none
abbrev pub term_alone : Formula → Option Term
term_alone (atom x) = Some x
term_alone _ = None

-- also in parentheses
abbrev pub lone_term : Formula → Option Term
lone_term (atom x) = Some x
lone_term (bare x) = None
lone_term (compare c x y) = None
lone_term (negation f) = None
lone_term (group f) = lone_term f
lone_term (both f g) = None
lone_term (either f g) = None
