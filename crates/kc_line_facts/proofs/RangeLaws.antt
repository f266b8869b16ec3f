-- What there is at the numbers up to one, with one more number.
use Rattle.std.proofs.Common.{◌≡◌, ℕ, ◌+◌, ◌<◌, Bool, true, false, if◌then◌else◌, List, [], ◌∷◌, ◌++◌, Option, Some, None, get_or, length, slice_get, refl, sym, ap, ◌∙◌, arith, append_assoc}
use Rattle.std.specs.List.{filter, filter_map, flat_map, range_with_len}
use Rattle.std.specs.Option.{option_to_list}
use Rattle.std.proofs.lemmas.Grind.{flat_map-append}
use Rattle.std.proofs.lemmas.List.{append-nil, map-id}
use Rattle.std.proofs.lemmas.List.Elements.{filter-append, filter_map-append}
use Rattle.std.proofs.lemmas.List.FromFn.{map-range_with_len_more}
use Rattle.std.proofs.lemmas.Option.{slice_get_read}

range_more : (n : ℕ) → range_with_len 0 (n + 1) ≡ range_with_len 0 n ++ n ∷ []
range_more n =
    sym (map-id (range_with_len 0 (n + 1)))
    ∙ map-range_with_len_more (λ (k : ℕ). k) 0 n n (omega arith)
    ∙ ap (λ (ks : List ℕ). ks ++ n ∷ []) (map-id (range_with_len 0 n))

pub flat_map_range_more : {X : Type 0} (f : ℕ → List X) (n : ℕ) → flat_map f (range_with_len 0 (n + 1)) ≡ flat_map f (range_with_len 0 n) ++ f n
flat_map_range_more f n =
    ap (flat_map f) (range_more n)
    ∙ flat_map-append f (range_with_len 0 n) (n ∷ [])
    ∙ ap (λ r. flat_map f (range_with_len 0 n) ++ r) (append-nil (f n))

-- a list that grows by what there is at the next number
pub flat_map_next : {X : Type 0} (f : ℕ → List X) (n : ℕ) (now new : List X) → now ≡ flat_map f (range_with_len 0 n)
    → new ≡ now ++ f n → new ≡ flat_map f (range_with_len 0 (n + 1))
flat_map_next f n now new is more = more ∙ ap (λ r. r ++ f n) is ∙ sym (flat_map_range_more f n)

-- the same after some list
pub flat_map_after : {X : Type 0} (f : ℕ → List X) (n : ℕ) (before now new : List X) → now ≡ before ++ flat_map f (range_with_len 0 n)
    → new ≡ now ++ f n → new ≡ before ++ flat_map f (range_with_len 0 (n + 1))
flat_map_after f n before now new is more =
    more
    ∙ ap (λ r. r ++ f n) is
    ∙ append_assoc before (flat_map f (range_with_len 0 n)) (f n)
    ∙ ap (λ r. before ++ r) (sym (flat_map_range_more f n))

-- ---- the numbers that pass a test, and those that give something
filter_one : (p : ℕ → Bool) (n : ℕ) (b : Bool) → p n ≡ b → filter p (n ∷ []) ≡ (if b then n ∷ [] else [])
filter_one p n true is = rw is
filter_one p n false is = rw is

pub filter_next : (p : ℕ → Bool) (n : ℕ) (now new : List ℕ) → now ≡ filter p (range_with_len 0 n)
    → new ≡ now ++ (if p n then n ∷ [] else []) → new ≡ filter p (range_with_len 0 (n + 1))
filter_next p n now new is more =
    more
    ∙ ap (λ (r : List ℕ). r ++ (if p n then n ∷ [] else [])) is
    ∙ ap (λ (r : List ℕ). filter p (range_with_len 0 n) ++ r) (sym (filter_one p n (p n) refl))
    ∙ sym (filter-append p (range_with_len 0 n) (n ∷ []))
    ∙ ap (filter p) (sym (range_more n))

filter_map_one : {X : Type 0} (f : ℕ → Option X) (n : ℕ) (o : Option X) → f n ≡ o → filter_map f (n ∷ []) ≡ option_to_list o
filter_map_one f n None is = rw is
filter_map_one f n (Some x) is = rw is

pub filter_map_next : {X : Type 0} (f : ℕ → Option X) (n : ℕ) (now new : List X) → now ≡ filter_map f (range_with_len 0 n)
    → new ≡ now ++ option_to_list (f n) → new ≡ filter_map f (range_with_len 0 (n + 1))
filter_map_next f n now new is more =
    more
    ∙ ap (λ r. r ++ option_to_list (f n)) is
    ∙ ap (λ r. filter_map f (range_with_len 0 n) ++ r) (sym (filter_map_one f n (f n) refl))
    ∙ sym (filter_map-append f (range_with_len 0 n) (n ∷ []))
    ∙ ap (filter_map f) (sym (range_more n))

-- ---- an item of a list that a loop goes over
pub item_there : {X : Type 0} (xs ys : List X) (i : ℕ) (x : X) → ys ≡ xs → i < length ys → x ≡ get_or ys i x → slice_get xs i ≡ Some x
item_there xs ys i x same inside is = ap (λ zs. slice_get zs i) (sym same) ∙ slice_get_read ys (length ys) i x refl inside is
