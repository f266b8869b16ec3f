-- The part of a number among those of several definitions, definition by definition.
use Rattle.std.proofs.Common.{◌≡◌, ◌<◌, ◌≤◌, ◌+◌, ◌-◌, ℕ, zero, suc, List, ◌++◌, Some, length, drop, map, slice_get, get_or, sym, ap, ◌∙◌, arith}
use Rattle.std.specs.Prelude.{flat_map}
use Rattle.std.specs.List.{range_with_len}
use Rattle.std.proofs.lemmas.List.{drop_more}
use Rattle.kc_text.specs.LineValue.{LineValue}
use Rattle.kc_lines.specs.declared.parts.Attribute.{Attribute}
use Rattle.kc_lines.specs.declared.parts.Family.TheVariants.{Definition}
use Rattle.kc_lines.specs.declared.parts.Part.TheVariants.{Said}
use Rattle.kc_lines.specs.Culprits.{parts_in, times_in}

-- among as many as there are numbers
numbered : {X : Type 0} (f : ℕ → X) (from count n : ℕ) (rest : List X) → n < count
    → slice_get (map f (range_with_len from count) ++ rest) n ≡ Some (f (from + n))
numbered f from zero n rest within = absurd (omega (arith, within))
numbered f from (suc count) zero rest within = let e : from ≡ from + 0 = omega arith in ap (λ k. Some (f k)) e
numbered f from (suc count) (suc n) rest within =
    let e : from + 1 + n ≡ from + suc n = omega arith in
    numbered f (from + 1) count n rest (omega (arith, within)) ∙ ap (λ k. Some (f k)) e

-- and after them
after : {X : Type 0} (f : ℕ → X) (from count n : ℕ) (rest : List X) → count ≤ n
    → slice_get rest (n - count) ≡ slice_get (map f (range_with_len from count) ++ rest) n
after f from zero n rest past = let e : n - 0 ≡ n = omega arith in ap (slice_get rest) e
after f from (suc count) zero rest past = absurd (omega (arith, past))
after f from (suc count) (suc n) rest past =
    let e : suc n - suc count ≡ n - count = omega arith in
    ap (slice_get rest) e ∙ after f (from + 1) count n rest (omega (arith, past))

pub part_within : (lines : List LineValue) (a : Attribute) (xs : List ℕ) (i left d : ℕ) → i < length xs
    → left < times_in lines a (get_or xs i d)
    → slice_get (flat_map (parts_in lines a) (drop i xs)) left ≡ Some (Said Definition (get_or xs i d) a left)
part_within lines a xs i left d within less =
    let j = get_or xs i d in
    let e : 0 + left ≡ left = omega arith in
    ap (λ ys. slice_get (flat_map (parts_in lines a) ys) left) (drop_more xs i d within)
    ∙ numbered (Said Definition j a) 0 (times_in lines a j) left (flat_map (parts_in lines a) (drop (i + 1) xs)) less
    ∙ ap (λ k. Some (Said Definition j a k)) e

pub part_after : (lines : List LineValue) (a : Attribute) (xs : List ℕ) (i left d : ℕ) → i < length xs
    → times_in lines a (get_or xs i d) ≤ left
    → slice_get (flat_map (parts_in lines a) (drop (i + 1) xs)) (left - times_in lines a (get_or xs i d))
    ≡ slice_get (flat_map (parts_in lines a) (drop i xs)) left
part_after lines a xs i left d within more =
    let j = get_or xs i d in
    after (Said Definition j a) 0 (times_in lines a j) left (flat_map (parts_in lines a) (drop (i + 1) xs)) more
    ∙ sym (ap (λ ys. slice_get (flat_map (parts_in lines a) ys) left) (drop_more xs i d within))
