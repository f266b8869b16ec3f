-- The counts of outcomes add up.
use Rattle.std.proofs.Common.{◌≡◌, ℕ, suc, ◌+◌, List, [], ◌∷◌, length, cond, arith, refl}
use Rattle.std.specs.Prelude.{count_by}
use Rattle.std.proofs.lemmas.List.Sums.{sum_by-cons}
use Rattle.kc_files.specs.declared.outcomes.Outcome.{Outcome}
use Rattle.kc_files.specs.declared.outcomes.Outcome.TheVariants as outcome
use Rattle.kc_files.specs.Outcomes.{is_got, is_other, is_unusable, is_replaced}

-- one more of four counts
one_more : (n a b c d more_a more_b more_c more_d x y z w : ℕ) → n ≡ a + b + c + d
    → more_a ≡ x + a → more_b ≡ y + b → more_c ≡ z + c → more_d ≡ w + d → x + y + z + w ≡ 1
    → suc n ≡ more_a + more_b + more_c + more_d
one_more n a b c d more_a more_b more_c more_d x y z w e ea eb ec ed one = omega (arith, e, ea, eb, ec, ed, one)

counts_with : (o : Outcome) (os : List Outcome)
    → cond (is_got o) 1 0 + cond (is_other o) 1 0 + cond (is_unusable o) 1 0 + cond (is_replaced o) 1 0 ≡ 1
    → length os ≡ count_by is_got os + count_by is_other os + count_by is_unusable os + count_by is_replaced os
    → length (o ∷ os) ≡ count_by is_got (o ∷ os) + count_by is_other (o ∷ os) + count_by is_unusable (o ∷ os) + count_by is_replaced (o ∷ os)
counts_with o os one e =
    one_more (length os) (count_by is_got os) (count_by is_other os) (count_by is_unusable os) (count_by is_replaced os)
    (count_by is_got (o ∷ os)) (count_by is_other (o ∷ os)) (count_by is_unusable (o ∷ os)) (count_by is_replaced (o ∷ os))
    (cond (is_got o) 1 0) (cond (is_other o) 1 0) (cond (is_unusable o) 1 0) (cond (is_replaced o) 1 0) e
    (sum_by-cons (λ x. cond (is_got x) 1 0) o os) (sum_by-cons (λ x. cond (is_other x) 1 0) o os)
    (sum_by-cons (λ x. cond (is_unusable x) 1 0) o os) (sum_by-cons (λ x. cond (is_replaced x) 1 0) o os) one

-- each outcome is one of the four
pub counts_add_up : (os : List Outcome) →
    length os ≡ count_by is_got os + count_by is_other os + count_by is_unusable os + count_by is_replaced os
counts_add_up [] = refl
counts_add_up (outcome.Got ∷ os) = counts_with outcome.Got os refl (counts_add_up os)
counts_add_up (outcome.Other ∷ os) = counts_with outcome.Other os refl (counts_add_up os)
counts_add_up (outcome.Unusable ∷ os) = counts_with outcome.Unusable os refl (counts_add_up os)
counts_add_up (outcome.Replaced n ∷ os) = counts_with (outcome.Replaced n) os refl (counts_add_up os)
