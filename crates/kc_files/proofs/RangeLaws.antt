-- What there is at the numbers up to one, with one more number.
use Rattle.std.proofs.Common.{◌≡◌, ℕ, ◌+◌, List, [], ◌∷◌, ◌++◌, Option, Some, None, refl, sym, ap, ◌∙◌, arith}
use Rattle.std.specs.List.{filter_map, flat_map, range_with_len}
use Rattle.std.specs.Option.{option_to_list}
use Rattle.std.proofs.lemmas.Grind.{flat_map-append}
use Rattle.std.proofs.lemmas.List.{append-nil, map-id}
use Rattle.std.proofs.lemmas.List.Elements.{filter_map-append}
use Rattle.std.proofs.lemmas.List.FromFn.{map-range_with_len_more}

range_more : (n : ℕ) → range_with_len 0 (n + 1) ≡ range_with_len 0 n ++ n ∷ []
range_more n =
    sym (map-id (range_with_len 0 (n + 1)))
    ∙ map-range_with_len_more (λ (k : ℕ). k) 0 n n (omega arith)
    ∙ ap (λ (ks : List ℕ). ks ++ n ∷ []) (map-id (range_with_len 0 n))

pub flat_map_range_more : {X : Type 0} (f : ℕ → List X) (n : ℕ) → flat_map f (range_with_len 0 (n + 1)) ≡ flat_map f (range_with_len 0 n) ++ f n
flat_map_range_more f n =
    ap (flat_map f) (range_more n)
    ∙ flat_map-append f (range_with_len 0 n) (n ∷ [])
    ∙ ap (λ r. flat_map f (range_with_len 0 n) ++ r) (append-nil (f n))

filter_map_one : {X : Type 0} (f : ℕ → Option X) (n : ℕ) (o : Option X) → f n ≡ o → filter_map f (n ∷ []) ≡ option_to_list o
filter_map_one f n None is = rw is
filter_map_one f n (Some x) is = rw is

pub filter_map_next : {X : Type 0} (f : ℕ → Option X) (n : ℕ) (now new : List X) → now ≡ filter_map f (range_with_len 0 n)
    → new ≡ now ++ option_to_list (f n) → new ≡ filter_map f (range_with_len 0 (n + 1))
filter_map_next f n now new is more =
    more
    ∙ ap (λ r. r ++ option_to_list (f n)) is
    ∙ ap (λ r. filter_map f (range_with_len 0 n) ++ r) (sym (filter_map_one f n (f n) refl))
    ∙ sym (filter_map-append f (range_with_len 0 n) (n ∷ []))
    ∙ ap (filter_map f) (sym (range_more n))
