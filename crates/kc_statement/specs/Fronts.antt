-- Steps: what is at the front of symbols: this project's own words for reading an expression from left to right.
use Rattle.std.specs.Prelude.{◌≡◌, ℕ, Bool, true, List, [], ◌∷◌, ◌++◌, if◌then◌else◌, drop}
use Rattle.kc_text.specs.declared.line.Token.{Token}
use Rattle.kc_statement.specs.declared.expr.Term.{Term}
use Rattle.kc_statement.specs.declared.expr.Comparison.{Comparison}
use Rattle.kc_statement.specs.declared.expr.ExprKind.{ExprKind}
use Rattle.kc_statement.specs.Grammar.{Symbol, term, compares, ampersands, bars, Formula, atom, bare, is_bare_in, spelled, Level, factor, part, expression, IsAt, symbols_of, is_factor, is_part}

-- the symbols from a position on
abbrev pub symbols_from : List (List ℕ) → List Token → ℕ → List Symbol
symbols_from names tokens position = symbols_of names (drop position tokens)

-- the symbols begin with another than this, or with none
abbrev pub DoesNotBegin : Symbol → List Symbol → Type 0
DoesNotBegin s symbols = (rest : List Symbol) → symbols ≡ s ∷ rest → ⊥

abbrev pub BeginsWithNoTerm : List Symbol → Type 0
BeginsWithNoTerm symbols = (x : Term) → DoesNotBegin (term x) symbols

abbrev pub BeginsWithNoComparison : List Symbol → Type 0
BeginsWithNoComparison symbols = (c : Comparison) → DoesNotBegin (compares c) symbols

-- a symbol that does not go on with an expression of that level
abbrev pub CanFollow : Level → Symbol → Type 0
CanFollow l (compares c) = ⊥
CanFollow part ampersands = ⊥
CanFollow expression ampersands = ⊥
CanFollow expression bars = ⊥
CanFollow l s = Unit {0}

-- symbols before which an expression of that level ends
abbrev pub StopsBefore : Level → List Symbol → Type 0
StopsBefore l [] = Unit {0}
StopsBefore l (s ∷ rest) = CanFollow l s

-- an expression of that kind and level at the front of symbols, and what stands after it; no other can be read there
pub record Begins (k : ExprKind) (l : Level) (symbols : List Symbol) (f : Formula) (rest : List Symbol) : Type 0 where
  pub level : IsAt k l f
  pub is : symbols ≡ spelled f ++ rest
  pub only : (g : Formula) (t : List Symbol) → IsAt k l g → StopsBefore l t → symbols ≡ spelled g ++ t → (g ≡ f) × (rest ≡ t)

-- no expression of that kind and level stands at the front
abbrev pub IsUnreadable : ExprKind → Level → List Symbol → Type 0
IsUnreadable k l symbols = (g : Formula) (t : List Symbol) → IsAt k l g → StopsBefore l t → symbols ≡ spelled g ++ t → ⊥

-- a term that stands alone
abbrev pub alone_in : ExprKind → Term → Formula
alone_in k x = if is_bare_in k x then bare x else atom x

-- whether a formula is one of that level by what it is on the outside
abbrev pub stands_at : Level → Formula → Bool
stands_at factor f = is_factor f
stands_at part f = is_part f
stands_at expression f = true
