-- The lines of a help text.
use Rattle.std.proofs.Common.{◌≡◌, ◌+◌, ◌*◌, ◌/◌, ◌<◌, ◌≤◌, ◌==◌, ◌∙◌, ℕ, zero, suc, true, false, if◌then◌else◌, List, [], ◌∷◌, length, take, get_or, fold, refl, ap, sym, arith}
use Rattle.std.proofs.Math.Nat.{div-mul-le_self}
use Rattle.std.specs.List.{prefix_len}
use Rattle.std.proofs.lemmas.List.Sums.{fold_more, prefix_len-le-length}
use Rattle.kc_text.specs.Help.{column_after, is_inside, len_inside}

pub take-take : {X : Type 0} (n m : ℕ) (xs : List X) → n ≤ m → take n (take m xs) ≡ take n xs
take-take zero m xs h = refl
take-take (suc n) zero xs h = absurd (omega (arith, h))
take-take (suc n) (suc m) [] h = refl
take-take (suc n) (suc m) (x ∷ xs) h = ap (λ ys. x ∷ ys) (take-take n m xs (omega (arith, h)))

-- a help text has no more lines than there are
pub len_inside-le : (column : ℕ) (lines : List (List ℕ)) → len_inside column lines ≤ length lines
len_inside-le column lines =
    elim (column == 0) as (λ b. (if b then 0 else prefix_len (is_inside column) lines) ≤ length lines) [ true ↦ omega arith | false ↦ prefix_len-le-length (is_inside column) lines ]

column_after-le : (column b : ℕ) → column_after column b ≤ column + 8
column_after-le column b =
    elim (b == 9) as (λ v. (if v then (column / 8 + 1) * 8 else column + 1) ≤ column + 8) [
      | true ↦ omega (arith, div-mul-le_self column 8)
      | false ↦ omega arith
    ]

-- blanks up to a place of a line, and the column there
module _ (line : List ℕ) (i reached : ℕ) (column_is : reached ≡ fold column_after 0 (take i line)) (inside : i < length line) where
  -- a blank more
  pub column_goes_on : column_after reached (get_or line i 0) ≡ fold column_after 0 (take (i + 1) line)
  column_goes_on = ap (λ v. column_after v (get_or line i 0)) column_is ∙ sym (fold_more column_after 0 line i 0 inside)

  pub column_within : reached ≤ 8 * i → column_after reached (get_or line i 0) ≤ 8 * (i + 1)
  column_within within = omega (arith, within, column_after-le reached (get_or line i 0))
