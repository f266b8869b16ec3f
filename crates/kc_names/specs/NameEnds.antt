-- Of many names the one that ends in `_` and a name: this project's own, by docs/ERRORS.md, "Warnings".
use Rattle.std.specs.Prelude.{◌≡◌, ◌≢◌, ◌≤◌, ℕ, List, ◌∷◌, ◌++◌, Option, Some, IfNone, IfSome, Contains, length, slice_get}
use Rattle.std.specs.List.Sorted.{IsNonDecreasingBy}
use Rattle.kc_names.specs.declared.name_forms.Kept.{Kept}
use Rattle.kc_names.specs.NameForms.{IsKept, lowered}
use Rattle.kc_names.specs.NearName.{IsAlike}

-- the second ends in `_` and the first, but for small and capital letters
abbrev pub EndsIn : List ℕ → List ℕ → Type 0
EndsIn a b = (before rest : List ℕ) × (b ≡ before ++ 95 ∷ rest) × IsAlike a rest

-- the first has four bytes or more, the second 64 at most
abbrev pub IsEndOf : List ℕ → List ℕ → Type 0
IsEndOf a b = (4 ≤ length a) × (length b ≤ 64) × EndsIn a b

-- and the second is one of many names
abbrev pub IsEnding : List (List ℕ) → List ℕ → List ℕ → Type 0
IsEnding names a b = Contains names b × IsEndOf a b

-- the only one that something holds of, and none if it holds of no or of several
pub record IsOnly (P : List ℕ → Type 0) (found : Option (List ℕ)) : Type 0 where
  pub one : IfSome found (λ b. P b × ((c : List ℕ) → P c → c ≡ b))
  pub several : IfNone found ((b : List ℕ) → P b → (c : List ℕ) × P c × (c ≢ b))

-- ---- one that is not the excepted one
-- the name of a number is, and ends so
abbrev pub IsOtherAt : List (List ℕ) → Option (List ℕ) → List ℕ → ℕ → Type 0
IsOtherAt names excepted a k = (b : List ℕ) × (slice_get names k ≡ Some b) × (excepted ≢ Some b) × IsEndOf a b

-- the number of such a name, if there is one
pub record IsOtherNumber (names : List (List ℕ)) (excepted : Option (List ℕ)) (a : List ℕ) (found : Option ℕ) : Type 0 where
  pub holds : IfSome found (IsOtherAt names excepted a)
  pub none : IfNone found ((k : ℕ) → IsOtherAt names excepted a k → ⊥)

-- such a name, if there is one
pub record IsOtherOf (names : List (List ℕ)) (excepted : Option (List ℕ)) (a : List ℕ) (found : Option (List ℕ)) : Type 0 where
  pub holds : IfSome found (λ b. (k : ℕ) × (slice_get names k ≡ Some b) × (excepted ≢ Some b) × IsEndOf a b)
  pub none : IfNone found ((k : ℕ) → IsOtherAt names excepted a k → ⊥)

-- ---- what is kept
-- what comes after each `_` of a name of 64 bytes at most
abbrev pub KeepsEnds : List Kept → ℕ → List ℕ → Type 0
KeepsEnds kept number name = length name ≤ 64 → (before rest : List ℕ) → name ≡ before ++ 95 ∷ rest → IsKept kept (lowered rest) number

-- of all names, in the order of the hashes
pub record HasEnds (names : List (List ℕ)) (kept : List Kept) : Type 0 where
  pub ends : (number : ℕ) (name : List ℕ) → slice_get names number ≡ Some name → KeepsEnds kept number name
  pub rise : IsNonDecreasingBy (λ k. k.hash) kept
