-- Lines that pass the test are apart, and no others do.
use Rattle.std.proofs.Common.{◌↔◌, ◌<◌, ℕ, zero, suc, List, [], ◌∷◌, length, get_or, arith}
use Rattle.std.specs.Prelude.{All}
use Rattle.std.specs.List.{AllPairs}
use Rattle.kc_outline.specs.TreeValue.{TreeValue}
use Rattle.kc_files.specs.declared.assign.Assign.{Assign}
use Rattle.kc_how.specs.Apart.{AreApart, AreTested, IsApart, IsBeforeFirst}

-- ---- of a line and those after it
pairs_from : {X : Type 0} (R : X → X → Type 0) (x : X) (xs : List X) → All (R x) xs → AllPairs R xs → AllPairs R (x ∷ xs)
pairs_from R x xs first rest zero zero d less inside = absurd (omega (arith, less))
pairs_from R x xs first rest zero (suc j) d less inside = first j d (omega (arith, inside))
pairs_from R x xs first rest (suc i) zero d less inside = absurd (omega (arith, less))
pairs_from R x xs first rest (suc i) (suc j) d less inside = rest i j d (omega (arith, less)) (omega (arith, inside))

pub pairs_first : {X : Type 0} (R : X → X → Type 0) (x : X) (xs : List X) → AllPairs R (x ∷ xs) → All (R x) xs
pairs_first R x xs h k d inside = h zero (suc k) d (omega arith) (omega (arith, inside))

pub pairs_rest : {X : Type 0} (R : X → X → Type 0) (x : X) (xs : List X) → AllPairs R (x ∷ xs) → AllPairs R xs
pairs_rest R x xs h i j d less inside = h (suc i) (suc j) d (omega (arith, less)) (omega (arith, inside))

-- a line before the first of others that are in order is before each of them
before_each : (t : TreeValue) (a : Assign) (later : List Assign) → IsBeforeFirst a later → AreApart t later
    → (k : ℕ) (d : Assign) → k < length later → a.symbol.0 < (get_or later k d).symbol.0
before_each t a [] first apart k d inside = absurd (omega (arith, inside))
before_each t a (b ∷ later) first apart zero d inside = first
before_each t a (b ∷ later) first apart (suc k) d inside =
    omega (arith, first, (apart zero (suc k) d (omega arith) inside).0)

before_first : (t : TreeValue) (a : Assign) (later : List Assign) → All (IsApart t a) later → IsBeforeFirst a later
before_first t a [] h = tt
before_first t a (b ∷ later) h = (h zero b (omega arith)).0

are_so : (t : TreeValue) (lines : List Assign) → AreTested t lines → AreApart t lines
are_so t [] h = λ i j d less inside. absurd (omega (arith, inside))
are_so t (a ∷ later) h =
    let apart = are_so t later h.2 in
    pairs_from (IsApart t) a later (λ k d inside. (before_each t a later h.0 apart k d inside, h.1 k d inside)) apart

are_found : (t : TreeValue) (lines : List Assign) → AreApart t lines → AreTested t lines
are_found t [] h = tt
are_found t (a ∷ later) h =
    let first = pairs_first (IsApart t) a later h in
    (before_first t a later first, λ k d inside. (first k d inside).1, are_found t later (pairs_rest (IsApart t) a later h))

pub apart_is : (t : TreeValue) (lines : List Assign) → AreTested t lines ↔ AreApart t lines
apart_is t lines = (are_so t lines, are_found t lines)
