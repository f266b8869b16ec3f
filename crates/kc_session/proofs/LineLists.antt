-- Lines by number, and one more.
use Rattle.std.proofs.Common.{◌≡◌, ℕ, ◌+◌, zero, suc, List, ◌++◌, sym, ap, ap₂, ◌∙◌, append_assoc, append-nil, arith}
use Rattle.std.specs.List.{flat_map, range_with_len}

lines_after : (f : ℕ → List ℕ) (a n j : ℕ) → a + n ≡ j → flat_map f (range_with_len a (suc n)) ≡ flat_map f (range_with_len a n) ++ f j
lines_after f a zero j e = append-nil (f a) ∙ ap f (omega (arith, e))
lines_after f a (suc n) j e =
    ap (λ r. f a ++ r) (lines_after f (a + 1) n j (omega (arith, e)))
    ∙ sym (append_assoc (f a) (flat_map f (range_with_len (a + 1) n)) (f j))

-- a text of the lines below n, with the line of n behind it
pub lines_more : (f : ℕ → List ℕ) (n : ℕ) (old line new : List ℕ) → old ≡ flat_map f (range_with_len 0 n) → line ≡ f n → new ≡ old ++ line
    → new ≡ flat_map f (range_with_len 0 (n + 1))
lines_more f n old line new so_far next grown =
    let more : suc n ≡ n + 1 = omega arith in
    grown
    ∙ ap₂ (λ x y. x ++ y) so_far next
    ∙ sym (lines_after f 0 n n (omega arith))
    ∙ ap (λ m. flat_map f (range_with_len 0 m)) more
