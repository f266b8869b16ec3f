-- The first item that passes a test, in a run of references to the items of a list.
use Rattle.std.proofs.Common.{◌≡◌, ℕ, ◌+◌, Bool, true, false, cond, List, [], ◌∷◌, ◌++◌, map, length, take, drop, Option, Some, None, find, Bor, IsNone, IsTrue, refl, sym, ap, ◌∙◌, subst, arith}
use Rattle.std.specs.List.{position_or_len}
use Rattle.std.specs.Option.{option_map}
use Rattle.std.specs.Iterator.Runs.{Run}
use Rattle.std.proofs.lemmas.Iterator.{YieldsList}
use Rattle.std.proofs.lemmas.List.{take-append-drop}
use Rattle.itertools.specs.Consumer.{find_at}
use Rattle.itertools.proofs.AdaptorLemmas.{items_from_run, items_from_whole_run}
use Rattle.kc_value.proofs.ReasonParts.{position_step}

module _ {A : Type 0} (h : A → Bool) where
  abbrev found_item : Option (ℕ × Bor A) → Option A
  found_item o = option_map (λ (q : ℕ × Bor A). q.1.now) o

  found-map : (i : ℕ) (xs : List (Bor A)) → found_item (find_at (λ y. h y.now) i xs) ≡ find h (map (λ y. y.now) xs)
  found-map i [] = refl
  found-map i (x ∷ xs) =
      elim (h x.now) as (λ b. found_item (cond b (Some (i, x)) (find_at (λ y. h y.now) (i + 1) xs)) ≡ cond b (Some x.now) (find h (map (λ y. y.now) xs))) [
        | true ↦ refl
        | false ↦ found-map (i + 1) xs
      ]

  -- an item found in the front of a list is the one found in the list
  find-append : (xs ys : List A) (v : A) → find h xs ≡ Some v → find h (xs ++ ys) ≡ Some v
  find-append [] ys v e = cc
  find-append (x ∷ xs) ys v e = go (h x) refl (find-append xs ys v)
    where
      go : (b : Bool) → h x ≡ b → (find h xs ≡ Some v → find h (xs ++ ys) ≡ Some v) → find h (x ∷ xs ++ ys) ≡ Some v
      go true k more = rw k (rw k at e)
      go false k more = rw k (more (rw k at e))

  -- what `find_position` says of a run, said of the list that is gone over
  pub first_from_run : {S : Type 0} {steps : S → Option (Bor A) → S → Type 0} {s : S} {all : List A} (road : YieldsList steps (λ y. y.now) s all) (p : Run steps) (at : p.from ≡ s) (r : Option (ℕ × Bor A))
      → r ≡ find_at (λ y. h y.now) 0 p.items → (IsNone r → IsTrue p.whole) → found_item r ≡ find h all
  first_from_run {all = all} road p at r e w = go r refl
    where
      in_front : found_item r ≡ find h (take (length p.items) all)
      in_front = ap (λ o. found_item o) e ∙ found-map 0 p.items ∙ ap (λ l. find h l) (items_from_run road p at)

      go : (o : Option (ℕ × Bor A)) → r ≡ o → found_item r ≡ find h all
      go None n = ap (λ o. found_item o) e ∙ found-map 0 p.items ∙ ap (λ l. find h l) (items_from_whole_run road p at (w (rw n refl)))
      go (Some v) n =
          let split : all ≡ take (length p.items) all ++ drop (length p.items) all = sym (take-append-drop (length p.items) all) in
          let here : found_item r ≡ Some v.1.now = ap (λ o. found_item o) n in
          here ∙ sym (subst (λ l. find h l ≡ Some v.1.now) (sym split) (find-append (take (length p.items) all) (drop (length p.items) all) v.1.now (sym in_front ∙ here)))

  -- ---- and its place
  abbrev found_place : Option (ℕ × Bor A) → Option ℕ
  found_place o = option_map (λ (q : ℕ × Bor A). q.0) o

  -- a place, if something is found
  abbrev place_if : ℕ → List A → Option ℕ
  place_if n xs = option_map (λ _. n) (find h xs)

  place-map : (i : ℕ) (xs : List (Bor A)) → found_place (find_at (λ y. h y.now) i xs) ≡ place_if (i + position_or_len h (map (λ y. y.now) xs)) (map (λ y. y.now) xs)
  place-map i [] = refl
  place-map i (x ∷ xs) =
      let rest : List A = map (λ (y : Bor A). y.now) xs in
      let here : i ≡ i + 0 = omega arith in
      let later : i + 1 + position_or_len h rest ≡ i + (1 + position_or_len h rest) = omega arith in
      (elim (h x.now) as (λ b. found_place (cond b (Some (i, x)) (find_at (λ y. h y.now) (i + 1) xs)) ≡ option_map (λ _. i + cond b 0 (1 + position_or_len h rest)) (cond b (Some x.now) (find h rest))) [
        | true ↦ ap (λ n. Some n) here
        | false ↦ place-map (i + 1) xs ∙ ap (λ n. place_if n rest) later
      ]) ∙ ap (λ n. place_if (i + n) (x.now ∷ rest)) (sym (position_step h x.now rest))

  place-first : (xs : List (Bor A)) → found_place (find_at (λ y. h y.now) 0 xs) ≡ place_if (position_or_len h (map (λ y. y.now) xs)) (map (λ y. y.now) xs)
  place-first xs =
      let same : 0 + position_or_len h (map (λ (y : Bor A). y.now) xs) ≡ position_or_len h (map (λ (y : Bor A). y.now) xs) = omega arith in
      place-map 0 xs ∙ ap (λ n. place_if n (map (λ (y : Bor A). y.now) xs)) same

  place-append : (xs ys : List A) (v : A) → find h xs ≡ Some v → position_or_len h (xs ++ ys) ≡ position_or_len h xs
  place-append [] ys v e = cc
  place-append (x ∷ xs) ys v e = go (h x) refl (place-append xs ys v)
    where
      go : (b : Bool) → h x ≡ b → (find h xs ≡ Some v → position_or_len h (xs ++ ys) ≡ position_or_len h xs)
          → position_or_len h (x ∷ xs ++ ys) ≡ position_or_len h (x ∷ xs)
      go true k more =
          let longer : position_or_len h (x ∷ xs ++ ys) ≡ 0 = position_step h x (xs ++ ys) ∙ ap (λ b. cond b 0 (1 + position_or_len h (xs ++ ys))) k in
          let shorter : position_or_len h (x ∷ xs) ≡ 0 = position_step h x xs ∙ ap (λ b. cond b 0 (1 + position_or_len h xs)) k in
          longer ∙ sym shorter
      go false k more =
          let longer : position_or_len h (x ∷ xs ++ ys) ≡ 1 + position_or_len h (xs ++ ys) = position_step h x (xs ++ ys) ∙ ap (λ b. cond b 0 (1 + position_or_len h (xs ++ ys))) k in
          let shorter : position_or_len h (x ∷ xs) ≡ 1 + position_or_len h xs = position_step h x xs ∙ ap (λ b. cond b 0 (1 + position_or_len h xs)) k in
          longer ∙ ap (λ n. 1 + n) (more (rw k at e)) ∙ sym shorter

  pub place_from_run : {S : Type 0} {steps : S → Option (Bor A) → S → Type 0} {s : S} {all : List A} (road : YieldsList steps (λ y. y.now) s all) (p : Run steps) (at : p.from ≡ s) (r : Option (ℕ × Bor A))
      → r ≡ find_at (λ y. h y.now) 0 p.items → (IsNone r → IsTrue p.whole) → found_place r ≡ place_if (position_or_len h all) all
  place_from_run {all = all} road p at r e w = go r refl
    where
      front : List A
      front = take (length p.items) all

      in_front : found_place r ≡ place_if (position_or_len h front) front
      in_front = ap (λ o. found_place o) e ∙ place-first p.items ∙ ap (λ l. place_if (position_or_len h l) l) (items_from_run road p at)

      go : (o : Option (ℕ × Bor A)) → r ≡ o → found_place r ≡ place_if (position_or_len h all) all
      go None n =
          ap (λ o. found_place o) e ∙ place-first p.items ∙ ap (λ l. place_if (position_or_len h l) l) (items_from_whole_run road p at (w (rw n refl)))
      go (Some v) n =
          let split : all ≡ front ++ drop (length p.items) all = sym (take-append-drop (length p.items) all) in
          let item : find h front ≡ Some v.1.now = sym (ap (λ o. found_item o) e ∙ found-map 0 p.items ∙ ap (λ l. find h l) (items_from_run road p at)) ∙ ap (λ o. found_item o) n in
          let whole : find h all ≡ Some v.1.now = subst (λ l. find h l ≡ Some v.1.now) (sym split) (find-append front (drop (length p.items) all) v.1.now item) in
          let same : position_or_len h all ≡ position_or_len h front =
          subst (λ l. position_or_len h l ≡ position_or_len h front) (sym split) (place-append front (drop (length p.items) all) v.1.now item) in
          in_front ∙ ap (λ o. option_map (λ _. position_or_len h front) o) (item ∙ sym whole) ∙ ap (λ n. place_if n all) (sym same)
