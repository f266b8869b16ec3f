-- What is known of a line that was not read, and of the place of its mistake: this project's own.
use Rattle.std.specs.Prelude.{◌≡◌, ◌-◌, ℕ, Bool, true, false, List, ◌++◌, length}
use Rattle.kc_text.specs.declared.line.Token.{Token}
use Rattle.kc_statement.specs.declared.expr.ExprKind.{ExprKind}
use Rattle.kc_statement.specs.declared.mistake.Mistake.{Mistake}
use Rattle.kc_statement.specs.declared.mistake.Unread.{Unread}
use Rattle.kc_statement.specs.declared.mistake.Unread.TheVariants.{NoMemory, At}
use Rattle.kc_statement.specs.Grammar.{Symbol, Formula, Level, IsAt, spelled, symbols_of}

-- memory was there
abbrev pub is_mistake : Unread → Bool
is_mistake NoMemory = false
is_mistake (At m) = true

-- a fact holds where memory was there
abbrev pub WhereMistaken : Unread → Type 0 → Type 0
WhereMistaken e fact = is_mistake e ≡ true → fact

-- the tokens are no such thing
abbrev pub IsMistake : {A : Type 0} → (A → Type 0) → Unread → Type 0
IsMistake {A} P e = WhereMistaken e ((x : A) → P x → ⊥)

-- what holds of the number of tokens that are left at the mistake
abbrev pub WherePlaced : Unread → (ℕ → Type 0) → Type 0
WherePlaced e P = (m : Mistake) → e ≡ At m → P m.left

-- up to the mistake all is right: other tokens from there on make an expression of that level
abbrev pub CanGoOn : List (List ℕ) → ExprKind → Level → List Symbol → ℕ → Type 0
CanGoOn names k l symbols left =
    (f : Formula) × (before rest : List Symbol) × (more : List Token) × (symbols ≡ before ++ rest) × (length rest ≡ left) × IsAt k l f
    × (spelled f ≡ before ++ symbols_of names more)

-- the same mistake, of the front of tokens, as one of them all
abbrev pub of_front : Unread → ℕ → ℕ → Unread
of_front NoMemory front all = NoMemory
of_front (At m) front all = At (record { left = all - (front - m.left); wanted = m.wanted })
