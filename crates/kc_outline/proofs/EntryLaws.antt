-- The entries of readings, one line after another.
use Rattle.std.proofs.Common.{◌≡◌, ℕ, zero, suc, ◌+◌, ◌<◌, List, [], ◌∷◌, ◌++◌, length, take, reverse, Option, refl, sym, ap, ◌∙◌, arith}
use Rattle.std.specs.Option.{option_and_then}
use Rattle.std.specs.List.{cons_option, filter_map, range_with_len, slice_get}
use Rattle.std.proofs.lemmas.List.{reverse-append, reverse-reverse, length-append, take-append-le}
use Rattle.std.proofs.Math.Seq.{take-append_seam}
use Rattle.kc_outline.specs.declared.entry.Entry.{Entry}
use Rattle.kc_outline.specs.Adding.{with_some}
use Rattle.kc_outline.specs.TreeOf.{Reading, entry_at, entry_in, entries_in}
use Rattle.kc_outline.proofs.BlockLaws.{slice_get_seam}
use Rattle.kc_outline.proofs.ChangeLaws.{filter_map_push}

range_more : (k n : ℕ) → range_with_len k (n + 1) ≡ range_with_len k n ++ (k + n) ∷ []
range_more k zero = let same : k ≡ k + 0 = omega arith in ap (λ i. i ∷ []) same
range_more k (suc n) =
    let last : k + 1 + n ≡ k + suc n = omega arith in
    let one : suc n + 1 ≡ suc (n + 1) = omega arith in
    ap (range_with_len k) one
    ∙ ap (λ is. k ∷ is) (range_more (k + 1) n)
    ∙ ap (λ i. k ∷ (range_with_len (k + 1) n ++ i ∷ [])) last

same_over_range : {A : Type 0} (f g : ℕ → Option A) (k n : ℕ) → ((i : ℕ) → i < k + n → f i ≡ g i) → filter_map f (range_with_len k n) ≡ filter_map g (range_with_len k n)
same_over_range f g k zero same = refl
same_over_range f g k (suc n) same =
    ap (λ o. cons_option o (filter_map f (range_with_len (k + 1) n))) (same k (omega arith))
    ∙ ap (cons_option (g k)) (same_over_range f g (k + 1) n (λ i few. same i (omega (arith, few))))

same_front : {X : Type 0} (xs : List X) (x : X) (i : ℕ) → i < length xs → slice_get (xs ++ x ∷ []) i ≡ slice_get xs i
same_front [] x i within = absurd (omega (arith, within))
same_front (y ∷ xs) x zero within = refl
same_front (y ∷ xs) x (suc i) within = same_front xs x i (omega (arith, within))

pub entries_more : (rs : List Reading) (r : Reading) → entries_in (rs ++ r ∷ []) ≡ with_some (entries_in rs) (entry_at rs r)
entries_more rs r =
    let all = rs ++ r ∷ [] in
    let last : entry_in all (length rs) ≡ entry_at rs r =
    ap (option_and_then (entry_at (take (length rs) all))) (slice_get_seam rs r []) ∙ ap (λ earlier. entry_at earlier r) (take-append_seam rs (r ∷ [])) in
    let front : filter_map (entry_in all) (range_with_len 0 (length rs)) ≡ entries_in rs = same_over_range (entry_in all) (entry_in rs) 0 (length rs) earlier in
    let many : length all ≡ length rs + 1 = length-append rs (r ∷ []) in
    let place : 0 + length rs ≡ length rs = omega arith in
    ap (λ n. filter_map (entry_in all) (range_with_len 0 n)) many
    ∙ ap (filter_map (entry_in all)) (range_more 0 (length rs) ∙ ap (λ i. range_with_len 0 (length rs) ++ i ∷ []) place)
    ∙ filter_map_push (entry_in all) (range_with_len 0 (length rs)) (length rs)
    ∙ ap (λ es. with_some es (entry_in all (length rs))) front
    ∙ ap (with_some (entries_in rs)) last
  where
    earlier : (i : ℕ) → i < 0 + length rs → entry_in (rs ++ r ∷ []) i ≡ entry_in rs i
    earlier i few =
        ap (option_and_then (entry_at (take i (rs ++ r ∷ [])))) (same_front rs r i (omega (arith, few)))
        ∙ ap (λ before. option_and_then (entry_at before) (slice_get rs i)) (take-append-le i rs (r ∷ []) (omega (arith, few)))

-- of readings in reverse, the last first
abbrev pub entries_before : List Reading → List Entry
entries_before [] = []
entries_before (r ∷ earlier) = with_some (entries_before earlier) (entry_at (reverse earlier) r)

entries_reversed : (qs : List Reading) → entries_in (reverse qs) ≡ entries_before qs
entries_reversed [] = refl
entries_reversed (q ∷ qs) =
    ap entries_in (reverse-append (q ∷ []) qs)
    ∙ entries_more (reverse qs) q
    ∙ ap (λ es. with_some es (entry_at (reverse qs) q)) (entries_reversed qs)

pub entries_of : (rs : List Reading) → entries_in rs ≡ entries_before (reverse rs)
entries_of rs = ap entries_in (sym (reverse-reverse rs)) ∙ entries_reversed (reverse rs)
