-- Steps: the place of a mistake among the tokens of a line: this project's own.
use Rattle.std.specs.Prelude.{◌≡◌, ℕ, List, ◌++◌, length}
use Rattle.kc_text.specs.declared.line.Operator.TheVariants as sign
use Rattle.kc_text.specs.declared.line.Token.{Token}
use Rattle.kc_text.specs.declared.line.Token.TheVariants.{Word, Expanded, Quoted, Operator}
use Rattle.kc_statement.specs.declared.mistake.Unread.{Unread}
use Rattle.kc_statement.specs.Mistakes.{WherePlaced}

-- up to the place all is right: with other tokens from there on they are such a thing
abbrev pub GoesOn : {A : Type 0} → (List Token → A → Type 0) → List Token → ℕ → Type 0
GoesOn {A} P tokens left =
    (x : A) × (before rest more : List Token) × P (before ++ more) x × (tokens ≡ before ++ rest) × (length rest ≡ left)

abbrev pub IsPlaced : {A : Type 0} → (List Token → A → Type 0) → List Token → Unread → Type 0
IsPlaced {A} P tokens e = WherePlaced e (GoesOn P tokens)

-- how many tokens are left where one token alone is no term: none after a sign that an expression may begin with
abbrev pub left_at : Token → ℕ
left_at (Word w) = 1
left_at (Expanded w) = 1
left_at (Quoted q) = 1
left_at (Operator sign.Not) = 0
left_at (Operator sign.Open) = 0
left_at (Operator _) = 1
