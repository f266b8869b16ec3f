-- Lines of the symbols so far, and the marks of the symbols that lines name.
use Rattle.std.proofs.Common.{◌≡◌, ℕ, ◌+◌, Bool, true, false, ◌||◌, List, [], ◌∷◌, ◌++◌, refl, sym, ap, ◌∙◌, arith}
use Rattle.std.specs.List.{flat_map, range_with_len}
use Rattle.std.proofs.lemmas.Grind.{flat_map-append}
use Rattle.std.proofs.lemmas.List.{append-nil, map-id}
use Rattle.std.proofs.lemmas.List.FromFn.{map-range_with_len_more}

range_more : (n : ℕ) → range_with_len 0 (n + 1) ≡ range_with_len 0 n ++ n ∷ []
range_more n =
    sym (map-id (range_with_len 0 (n + 1)))
    ∙ map-range_with_len_more (λ (k : ℕ). k) 0 n n (omega arith)
    ∙ ap (λ (ks : List ℕ). ks ++ n ∷ []) (map-id (range_with_len 0 n))

-- a list that grows by what there is at the next number
pub flat_map_next : {X : Type 0} (f : ℕ → List X) (n : ℕ) (now new : List X) → now ≡ flat_map f (range_with_len 0 n)
    → new ≡ now ++ f n → new ≡ flat_map f (range_with_len 0 (n + 1))
flat_map_next f n now new is more =
    more ∙ ap (λ r. r ++ f n) is
    ∙ sym (ap (flat_map f) (range_more n) ∙ flat_map-append f (range_with_len 0 n) (n ∷ []) ∙ ap (λ r. flat_map f (range_with_len 0 n) ++ r) (append-nil (f n)))

-- a mark that is set before the others
pub later_mark : (first mark rest : Bool) → (rest || (first || mark)) ≡ ((first || rest) || mark)
later_mark true mark true = refl
later_mark true mark false = refl
later_mark false mark true = refl
later_mark false mark false = refl
