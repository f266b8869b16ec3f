-- Where the elements of a list stand once it is filtered, and where those of the filtered list stood.
use Rattle.std.proofs.Common.{◌≡◌, Bool, true, false, ℕ, ◌+◌, ◌<◌, ◌≤◌, zero, suc, List, [], ◌∷◌, ◌++◌, length, get_or, take, drop, Contains, filter, inl, inr, refl, sym, ap, ◌∙◌, arith, length-append}
use Rattle.std.proofs.lemmas.Bool.{cases_Bool, cond-false, cond-true}
use Rattle.std.proofs.lemmas.List.{drop_more, get_or_at, take-append-drop, take_all}
use Rattle.std.proofs.lemmas.List.Elements.{filter-append}
use Rattle.std.proofs.lemmas.List.Filters.{length-filter_more}

-- the place of an element in the filtered list is how many before it are kept
abbrev pub place : {X : Type 0} → (X → Bool) → List X → ℕ → ℕ
place p xs j = length (filter p (take j xs))

-- an element that is kept stands at its place
module _ {X : Type 0} (p : X → Bool) (xs : List X) (j : ℕ) (d : X) (inside : j < length xs) (passes : p (get_or xs j d) ≡ true) where
  split : filter p xs ≡ filter p (take j xs) ++ get_or xs j d ∷ filter p (drop (j + 1) xs)
  split =
      ap (filter p) (sym (take-append-drop j xs))
      ∙ filter-append p (take j xs) (drop j xs)
      ∙ ap (λ ys. filter p (take j xs) ++ filter p ys) (drop_more xs j d inside)
      ∙ ap (λ ys. filter p (take j xs) ++ ys) (cond-true (p (get_or xs j d)) (get_or xs j d ∷ filter p (drop (j + 1) xs)) (filter p (drop (j + 1) xs)) passes)

  pub kept-within : place p xs j < length (filter p xs)
  kept-within = omega (arith, ap length split, length-append (filter p (take j xs)) (get_or xs j d ∷ filter p (drop (j + 1) xs)))

  pub kept_at : get_or (filter p xs) (place p xs j) d ≡ get_or xs j d
  kept_at = ap (λ ys. get_or ys (place p xs j) d) split ∙ get_or_at (filter p (take j xs)) (get_or xs j d) (filter p (drop (j + 1) xs)) d (place p xs j) refl

  pub place-kept : place p xs (j + 1) ≡ place p xs j + 1
  place-kept = length-filter_more p xs j d inside ∙ ap (λ n. place p xs j + n) (cond-true (p (get_or xs j d)) 1 0 passes)

-- an element that is left out takes no place
pub place-left_out : {X : Type 0} (p : X → Bool) (xs : List X) (j : ℕ) (d : X) → j < length xs → p (get_or xs j d) ≡ false → place p xs (j + 1) ≡ place p xs j
place-left_out p xs j d inside fails =
    let same : place p xs (j + 1) ≡ place p xs j + 0 = length-filter_more p xs j d inside ∙ ap (λ n. place p xs j + n) (cond-false (p (get_or xs j d)) 1 0 fails) in
    omega arith

-- behind the last element there are as many as are kept
pub place_end : {X : Type 0} (p : X → Bool) (xs : List X) (j : ℕ) → length xs ≤ j → place p xs j ≡ length (filter p xs)
place_end p xs j h = ap (λ ys. length (filter p ys)) (take_all j xs h)

pub Contains-filter : {X : Type 0} (p : X → Bool) (xs : List X) (x : X) → Contains xs x → p x ≡ true → Contains (filter p xs) x
Contains-filter p xs x c passes =
    let here : p (get_or xs c.0 x) ≡ true = ap p c.2 ∙ passes in
    (place p xs c.0, kept-within p xs c.0 x c.1 here, kept_at p xs c.0 x c.1 here ∙ c.2)

-- a later element has no earlier place
pub place_le : {X : Type 0} (p : X → Bool) (xs : List X) (j k : ℕ) → j ≤ k → place p xs j ≤ place p xs k
place_le p xs zero k h = omega arith
place_le p [] (suc j) zero h = absurd (omega arith)
place_le p [] (suc j) (suc k) h = omega arith
place_le p (x ∷ xs) (suc j) zero h = absurd (omega arith)
place_le p (x ∷ xs) (suc j) (suc k) h =
    let more = place_le p xs j k (omega arith) in
    elim (cases_Bool (p x)) [
      | inl kept ↦ omega (arith, more, ap length (cond-true (p x) (x ∷ filter p (take j xs)) (filter p (take j xs)) kept), ap length (cond-true (p x) (x ∷ filter p (take k xs)) (filter p (take k xs)) kept))
      | inr out ↦ omega (arith, more, ap length (cond-false (p x) (x ∷ filter p (take j xs)) (filter p (take j xs)) out), ap length (cond-false (p x) (x ∷ filter p (take k xs)) (filter p (take k xs)) out))
    ]

-- the element of a list that stands at a place of the filtered list
pub record StoodAt {X : Type 0} (p : X → Bool) (xs : List X) (i : ℕ) (d : X) : Type 0 where
  pub at : ℕ
  pub inside : at < length xs
  pub passes : p (get_or xs at d) ≡ true
  pub placed : place p xs at ≡ i
  pub same : get_or xs at d ≡ get_or (filter p xs) i d

-- it is the first one, and it is kept
first : {X : Type 0} (p : X → Bool) (x : X) (xs : List X) (d : X) → p x ≡ true → StoodAt p (x ∷ xs) 0 d
first p x xs d kept = record {
  at = 0;
  inside = omega arith;
  passes = kept;
  placed = refl;
  same = sym (ap (λ ys. get_or ys 0 d) (cond-true (p x) (x ∷ filter p xs) (filter p xs) kept));
}

-- it is a later one, and the first one is kept
after_kept : {X : Type 0} (p : X → Bool) (x : X) (xs : List X) (i : ℕ) (d : X) → p x ≡ true → StoodAt p xs i d → StoodAt p (x ∷ xs) (suc i) d
after_kept p x xs i d kept s = record {
  at = suc s.at;
  inside = omega (arith, s.inside);
  passes = s.passes;
  placed = ap length (cond-true (p x) (x ∷ filter p (take s.at xs)) (filter p (take s.at xs)) kept) ∙ ap suc s.placed;
  same = s.same ∙ sym (ap (λ ys. get_or ys (suc i) d) (cond-true (p x) (x ∷ filter p xs) (filter p xs) kept));
}

-- it is a later one, and the first one is left out
after_left_out : {X : Type 0} (p : X → Bool) (x : X) (xs : List X) (i : ℕ) (d : X) → p x ≡ false → StoodAt p xs i d → StoodAt p (x ∷ xs) i d
after_left_out p x xs i d out s = record {
  at = suc s.at;
  inside = omega (arith, s.inside);
  passes = s.passes;
  placed = ap length (cond-false (p x) (x ∷ filter p (take s.at xs)) (filter p (take s.at xs)) out) ∙ s.placed;
  same = s.same ∙ sym (ap (λ ys. get_or ys i d) (cond-false (p x) (x ∷ filter p xs) (filter p xs) out));
}

pub stood_at : {X : Type 0} (p : X → Bool) (xs : List X) (i : ℕ) (d : X) → i < length (filter p xs) → StoodAt p xs i d
stood_at p [] i d h = absurd (omega arith)
stood_at p (x ∷ xs) zero d h =
    elim (cases_Bool (p x)) [
      | inl kept ↦ first p x xs d kept
      | inr out ↦ after_left_out p x xs zero d out (stood_at p xs zero d (omega (arith, h, ap length (cond-false (p x) (x ∷ filter p xs) (filter p xs) out))))
    ]
stood_at p (x ∷ xs) (suc i) d h =
    elim (cases_Bool (p x)) [
      | inl kept ↦ after_kept p x xs i d kept (stood_at p xs i d (omega (arith, h, ap length (cond-true (p x) (x ∷ filter p xs) (filter p xs) kept))))
      | inr out ↦ after_left_out p x xs (suc i) d out (stood_at p xs (suc i) d (omega (arith, h, ap length (cond-false (p x) (x ∷ filter p xs) (filter p xs) out))))
    ]
