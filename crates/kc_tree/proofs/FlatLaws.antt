-- What lists that are made of others contain, and lists with the same elements.
use Rattle.std.proofs.Common.{◌≡◌, zero, suc, ◌<◌, List, [], ◌∷◌, ◌++◌, Option, Some, None, refl, sym, ap, subst, ◌∙◌, inl, inr, ◌⊎◌, arith}
use Rattle.std.specs.List.{Contains, filter_map, flat_map}
use Rattle.std.specs.Option.{option_map_or}
use Rattle.std.proofs.lemmas.List.Elements.{Contains-append_cases, Contains-append_left, Contains-append_right}
use Rattle.std.proofs.lemmas.Grind.{flat_map-append}

pub contains_nothing : {A : Type 0} (x : A) → Contains [] x → ⊥
contains_nothing x c = let k : c.0 < 0 = c.1 in omega (arith, k)

pub contains_first : {A : Type 0} (x : A) (xs : List A) → Contains (x ∷ xs) x
contains_first x xs = (0, omega arith, refl)

pub contains_later : {A : Type 0} (y x : A) (xs : List A) → Contains xs x → Contains (y ∷ xs) x
contains_later y x xs c = (suc c.0, omega (arith, c.1), c.2)

pub first_or_later : {A : Type 0} (y x : A) (xs : List A) → Contains (y ∷ xs) x → (y ≡ x) ⊎ Contains xs x
first_or_later y x xs (zero, h, e) = inl e
first_or_later y x xs (suc k, h, e) = inr (k, omega (arith, h), e)

module _ {A B : Type 0} (f : A → List B) where
  -- what an element of a list gives is in all that the list gives
  pub Contains-flat_map : (xs : List A) (x : A) (y : B) → Contains xs x → Contains (f x) y → Contains (flat_map f xs) y
  Contains-flat_map [] x y c d = absurd (contains_nothing x c)
  Contains-flat_map (z ∷ zs) x y c d = elim (first_or_later z x zs c) [
    | inl e ↦ Contains-append_left (f z) (flat_map f zs) y (subst (λ (w : A). Contains (f w) y) (sym e) d)
    | inr l ↦ Contains-append_right (f z) (flat_map f zs) y (Contains-flat_map zs x y l d)
  ]

  -- and nothing else is
  pub flat_map_cases : (xs : List A) (y : B) → Contains (flat_map f xs) y → (x : A) × Contains xs x × Contains (f x) y
  flat_map_cases [] y c = absurd (contains_nothing y c)
  flat_map_cases (z ∷ zs) y c = elim (Contains-append_cases (f z) (flat_map f zs) y c) [
    | inl h ↦ (z, contains_first z zs, h)
    | inr h ↦ let r = flat_map_cases zs y h in (r.0, contains_later z r.0 zs r.1, r.2)
  ]

-- ---- lists of lists
pub flat_flat : {A B C : Type 0} (g : B → List C) (f : A → List B) (xs : List A) → flat_map g (flat_map f xs) ≡ flat_map (λ x. flat_map g (f x)) xs
flat_flat g f [] = refl
flat_flat g f (x ∷ xs) = flat_map-append g (f x) (flat_map f xs) ∙ ap (λ ys. flat_map g (f x) ++ ys) (flat_flat g f xs)

pub flat_equal : {A B : Type 0} (f g : A → List B) (xs : List A) → ((x : A) → f x ≡ g x) → flat_map f xs ≡ flat_map g xs
flat_equal f g [] h = refl
flat_equal f g (x ∷ xs) h = ap (λ ys. ys ++ flat_map f xs) (h x) ∙ ap (λ ys. g x ++ ys) (flat_equal f g xs h)

-- alike at each element
pub flat_equal_on : {A B : Type 0} (f g : A → List B) (xs : List A) → ((x : A) → Contains xs x → f x ≡ g x) → flat_map f xs ≡ flat_map g xs
flat_equal_on f g [] h = refl
flat_equal_on f g (x ∷ xs) h = ap (λ ys. ys ++ flat_map f xs) (h x (contains_first x xs)) ∙ ap (λ ys. g x ++ ys) (flat_equal_on f g xs (λ y c. h y (contains_later x y xs c)))

pub flat_option : {A B C : Type 0} (g : B → List C) (f : A → List B) (o : Option A) → flat_map g (option_map_or f o []) ≡ option_map_or (λ x. flat_map g (f x)) o []
flat_option g f None = refl
flat_option g f (Some x) = refl

filtered_step : {A B C : Type 0} (f : B → List C) (h : A → Option B) (x : A) (xs : List A) → flat_map f (filter_map h xs) ≡ flat_map (λ y. option_map_or f (h y) []) xs → (o : Option B) → h x ≡ o → flat_map f (filter_map h (x ∷ xs)) ≡ flat_map (λ y. option_map_or f (h y) []) (x ∷ xs)
filtered_step f h x xs rest None e = rw e rest
filtered_step f h x xs rest (Some y) e = rw e (ap (λ ys. f y ++ ys) rest)

pub flat_filtered : {A B C : Type 0} (f : B → List C) (h : A → Option B) (xs : List A) → flat_map f (filter_map h xs) ≡ flat_map (λ y. option_map_or f (h y) []) xs
flat_filtered f h [] = refl
flat_filtered f h (x ∷ xs) = filtered_step f h x xs (flat_filtered f h xs) (h x) refl

-- ---- lists with the same elements
pub record HaveSameElements {A : Type 0} (xs ys : List A) : Type 0 where
  pub to : (x : A) → Contains xs x → Contains ys x
  pub from : (x : A) → Contains ys x → Contains xs x

module _ {A : Type 0} where
  pub same_equal : (xs ys : List A) → xs ≡ ys → HaveSameElements xs ys
  same_equal xs ys e = record { to = λ x c. subst (λ zs. Contains zs x) e c; from = λ x c. subst (λ zs. Contains zs x) (sym e) c }

  pub same_then : (xs ys zs : List A) → HaveSameElements xs ys → HaveSameElements ys zs → HaveSameElements xs zs
  same_then xs ys zs f g = record { to = λ x c. g.to x (f.to x c); from = λ x c. f.from x (g.from x c) }

  moved : (xs ys zs ws : List A) → ((x : A) → Contains xs x → Contains ys x) → ((x : A) → Contains zs x → Contains ws x) → (x : A) → Contains (xs ++ zs) x → Contains (ys ++ ws) x
  moved xs ys zs ws f g x c = elim (Contains-append_cases xs zs x c) [
    | inl h ↦ Contains-append_left ys ws x (f x h)
    | inr h ↦ Contains-append_right ys ws x (g x h)
  ]

  pub same_joined : (xs ys zs ws : List A) → HaveSameElements xs ys → HaveSameElements zs ws → HaveSameElements (xs ++ zs) (ys ++ ws)
  same_joined xs ys zs ws f g = record { to = moved xs ys zs ws f.to g.to; from = moved ys xs ws zs f.from g.from }

  pub same_flat : {X : Type 0} (f g : X → List A) (xs : List X) → ((x : X) → HaveSameElements (f x) (g x)) → HaveSameElements (flat_map f xs) (flat_map g xs)
  same_flat f g [] h = same_equal [] [] refl
  same_flat f g (x ∷ xs) h = same_joined (f x) (g x) (flat_map f xs) (flat_map g xs) (h x) (same_flat f g xs h)

  -- what comes at the end may come after each element before it, too
  pub same_with_last : {X : Type 0} (f : X → List A) (xs : List X) (rest last : List A) → HaveSameElements (flat_map (λ x. f x ++ last) xs ++ (rest ++ last)) (flat_map f xs ++ (rest ++ last))
  same_with_last f xs rest last = record { to = λ y c. to y (Contains-append_cases (flat_map (λ x. f x ++ last) xs) (rest ++ last) y c); from = λ y c. from y (Contains-append_cases (flat_map f xs) (rest ++ last) y c) }
    where
      at_end : (y : A) → Contains last y → Contains (flat_map f xs ++ (rest ++ last)) y
      at_end y c = Contains-append_right (flat_map f xs) (rest ++ last) y (Contains-append_right rest last y c)

      to : (y : A) → Contains (flat_map (λ x. f x ++ last) xs) y ⊎ Contains (rest ++ last) y → Contains (flat_map f xs ++ (rest ++ last)) y
      to y (inr c) = Contains-append_right (flat_map f xs) (rest ++ last) y c
      to y (inl c) =
          let r = flat_map_cases (λ x. f x ++ last) xs y c in
          elim (Contains-append_cases (f r.0) last y r.2) [
            | inl h ↦ Contains-append_left (flat_map f xs) (rest ++ last) y (Contains-flat_map f xs r.0 y r.1 h)
            | inr h ↦ at_end y h
          ]

      from : (y : A) → Contains (flat_map f xs) y ⊎ Contains (rest ++ last) y → Contains (flat_map (λ x. f x ++ last) xs ++ (rest ++ last)) y
      from y (inr c) = Contains-append_right (flat_map (λ x. f x ++ last) xs) (rest ++ last) y c
      from y (inl c) =
          let r = flat_map_cases f xs y c in
          Contains-append_left (flat_map (λ x. f x ++ last) xs) (rest ++ last) y (Contains-flat_map (λ x. f x ++ last) xs r.0 y r.1 (Contains-append_left (f r.0) last y r.2))
