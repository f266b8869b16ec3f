-- Laws of lists that std lacks.
use Rattle.std.proofs.Common.{◌≡◌, ◌≢◌, ℕ, ◌<◌, ◌≤◌, ◌⊎◌, zero, suc, List, [], ◌∷◌, length, get_or, set, None, inl, inr, arith, get_or-set_same, get_or-set_other}
use Rattle.std.specs.List.{slice_get}
use Rattle.std.proofs.lemmas.Bool.{cases_eq}

-- an element after a write: the written one, or another one, as it was
pub set_cases : {X : Type 0} → (xs : List X) (i : ℕ) (y d : X) (j : ℕ) → i < length xs → ((j ≡ i) × (get_or (set xs i y) j d ≡ y)) ⊎ ((j ≢ i) × (get_or (set xs i y) j d ≡ get_or xs j d))
set_cases xs i y d j inside =
    elim (cases_eq j i) [ inl e ↦ inl (e, rw e (get_or-set_same xs i y d inside)) | inr other ↦ inr (other, get_or-set_other xs i j y d other) ]

-- a place that has no element is past the end
pub past_end : {X : Type 0} (xs : List X) (i : ℕ) → None ≡ slice_get xs i → length xs ≤ i
past_end [] i e = omega arith
past_end (x ∷ xs) zero e = cc
past_end (x ∷ xs) (suc i) e = let h = past_end xs i e in omega arith
