-- What a line says, read as the part by which it says it: this project's own.
use Rattle.std.specs.Prelude.{◌≡◌, ◌==◌, ℕ, Bool, true, false, List, Result, MatchResult, drop, length}
use Rattle.kc_text.specs.LineValue.{LineValue}
use Rattle.kc_statement.specs.declared.mistake.Unread.{Unread}
use Rattle.kc_statement.specs.declared.statement.Statement.{Statement}
use Rattle.kc_statement.specs.Mistakes.{WhereMistaken}
use Rattle.kc_statement.specs.Statements.{HasForm, HasNoForm}

-- a line says this, and nothing else
pub record SaysOnly (names : List (List ℕ)) (l : LineValue) (s : Statement) : Type 0 where
  pub form : HasForm names l s
  pub only : (other : Statement) → HasForm names l other → other ≡ s

-- the part of the one statement that a line says; where the line has a mistake, it says none
abbrev pub IsPartOf : {A : Type 0} → List (List ℕ) → LineValue → (A → Statement) → Result A Unread → Type 0
IsPartOf names l says r = MatchResult r (λ x. SaysOnly names l (says x)) (λ e. WhereMistaken e (HasNoForm names l))

-- whether a line says this, where it can say nothing else
abbrev pub IsSaidWhere : List (List ℕ) → LineValue → Statement → Bool → Type 0
IsSaidWhere names l s true = SaysOnly names l s
IsSaidWhere names l s false = HasNoForm names l

-- nothing comes after the first word of a line
abbrev pub stands_alone : LineValue → Bool
stands_alone l = length (drop 1 l.tokens) == 0
