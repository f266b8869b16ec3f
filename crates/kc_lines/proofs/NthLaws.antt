-- The line of a number among those that pass a test, line by line.
use Rattle.std.proofs.Common.{◌≡◌, ◌<◌, ◌+◌, ◌-◌, ℕ, zero, suc, Bool, true, false, cond, List, ◌∷◌, Some, length, drop, filter, slice_get, get_or, sym, ap, ◌∙◌, arith}
use Rattle.std.proofs.lemmas.List.{drop_more}

split_at : {X : Type 0} (test : X → Bool) (xs : List X) (i : ℕ) (d : X) → i < length xs
    → filter test (drop i xs) ≡ cond (test (get_or xs i d)) (get_or xs i d ∷ filter test (drop (i + 1) xs)) (filter test (drop (i + 1) xs))
split_at test xs i d within = ap (filter test) (drop_more xs i d within)

pub passed_over : {X : Type 0} (test : X → Bool) (xs : List X) (i n : ℕ) (d : X) → i < length xs → test (get_or xs i d) ≡ false
    → slice_get (filter test (drop (i + 1) xs)) n ≡ slice_get (filter test (drop i xs)) n
passed_over test xs i n d within fails =
    sym (ap (λ ys. slice_get ys n) (split_at test xs i d within ∙ ap (λ b. cond b (get_or xs i d ∷ filter test (drop (i + 1) xs)) (filter test (drop (i + 1) xs))) fails))

pub found_first : {X : Type 0} (test : X → Bool) (xs : List X) (i : ℕ) (d : X) → i < length xs → test (get_or xs i d) ≡ true
    → slice_get (filter test (drop i xs)) 0 ≡ Some (get_or xs i d)
found_first test xs i d within passes =
    ap (λ ys. slice_get ys 0) (split_at test xs i d within ∙ ap (λ b. cond b (get_or xs i d ∷ filter test (drop (i + 1) xs)) (filter test (drop (i + 1) xs))) passes)

after_first : {X : Type 0} (x : X) (xs : List X) (n : ℕ) → 0 < n → slice_get (x ∷ xs) n ≡ slice_get xs (n - 1)
after_first x xs zero some = absurd (omega (arith, some))
after_first x xs (suc n) some = let less : n ≡ suc n - 1 = omega arith in ap (slice_get xs) less

pub counted_down : {X : Type 0} (test : X → Bool) (xs : List X) (i n : ℕ) (d : X) → i < length xs → test (get_or xs i d) ≡ true → 0 < n
    → slice_get (filter test (drop (i + 1) xs)) (n - 1) ≡ slice_get (filter test (drop i xs)) n
counted_down test xs i n d within passes some =
    sym (ap (λ ys. slice_get ys n) (split_at test xs i d within ∙ ap (λ b. cond b (get_or xs i d ∷ filter test (drop (i + 1) xs)) (filter test (drop (i + 1) xs))) passes)
    ∙ after_first (get_or xs i d) (filter test (drop (i + 1) xs)) n some)
