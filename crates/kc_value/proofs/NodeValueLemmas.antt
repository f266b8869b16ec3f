-- The values of nodes, and what is said of them.
use Rattle.std.proofs.Common.{◌≡◌, false, map, ℕ, zero, suc, nat_eq, List, [], ◌∷◌, Option, None, get_or, replicate, slice_set, refl, sym, ap, ap₂, ◌∙◌, arith}
use Rattle.std.specs.Prelude.{is_some}
use Rattle.std.proofs.Math.Dec.{eqb-suc-suc, eqb-suc-zero, eqb-zero-suc}
use Rattle.std.proofs.Math.Path.{fun_ext}
use Rattle.std.proofs.lemmas.Grind.{common_steps}
use Rattle.std.proofs.lemmas.List.{map-set}
use Rattle.kc_value.specs.declared.summary.Summary.{Summary}
use Rattle.kc_value.specs.declared.summary.Summary.TheVariants.{Absent}
use Rattle.kc_value.specs.declared.value.Value.{Value}
use Rattle.kc_value.specs.NodeValues.{seen, held}
use Rattle.kc_value.specs.Summaries.{summary_of, is_present}

-- ---- places
-- where one place is seen otherwise, and of the others the same is stored
pub held_set : (ss : List Summary) (f g : ℕ → Option Value) (k : ℕ) (s : Summary) (o : Option Value) → seen s (g k) ≡ o → ((j : ℕ) → nat_eq k j ≡ false → g j ≡ f j)
    → held (slice_set ss k s) g ≡ slice_set (held ss f) k o
unfolding held
held_set [] f g k s o here other = refl
held_set (r ∷ ss) f g zero s o here other = ap₂ (λ (x : Option Value) (xs : List (Option Value)). x ∷ xs) here (ap (held ss) (fun_ext (λ j. other (suc j) (eqb-zero-suc j))))
held_set (r ∷ ss) f g (suc k) s o here other =
    ap₂ (λ (x : Option Value) (xs : List (Option Value)). seen r x ∷ xs) (other 0 (eqb-suc-zero k)) (held_set ss (λ j. f (suc j)) (λ j. g (suc j)) k s o here (λ j differs. other (suc j) (eqb-suc-suc k j ∙ differs)))

-- and what is said stays right there
pub said_set : (ss : List Summary) (f g : ℕ → Option Value) (k : ℕ) (s : Summary) (o : Option Value) → ss ≡ map summary_of (held ss f) → s ≡ summary_of o → seen s (g k) ≡ o
    → ((j : ℕ) → nat_eq k j ≡ false → g j ≡ f j) → slice_set ss k s ≡ map summary_of (held (slice_set ss k s) g)
said_set ss f g k s o is said here other =
    ap₂ (λ (r : Summary) (rs : List Summary). slice_set rs k r) said is ∙ sym (map-set summary_of (held ss f) k o) ∙ ap (map summary_of) (sym (held_set ss f g k s o here other))

-- where it is said of no place that there is a value
pub nothing_held : (n : ℕ) (f : ℕ → Option Value) → held (replicate n Absent) f ≡ replicate n None
unfolding held
nothing_held zero f = refl
nothing_held (suc n) f = ap (λ (xs : List (Option Value)). None ∷ xs) (nothing_held n (λ k. f (suc k)))

pub nothing_said : (n : ℕ) (f : ℕ → Option Value) → map summary_of (held (replicate n Absent) f) ≡ replicate n Absent
unfolding held
nothing_said zero f = refl
nothing_said (suc n) f = ap (λ (ss : List Summary). Absent ∷ ss) (nothing_said n (λ k. f (suc k)))

-- ---- one place
pub seen_at : (ss : List Summary) (f : ℕ → Option Value) (k : ℕ) → get_or (held ss f) k None ≡ seen (get_or ss k Absent) (f k)
unfolding held
seen_at [] f k = refl
seen_at (s ∷ ss) f zero = refl
seen_at (s ∷ ss) f (suc k) = seen_at ss (λ j. f (suc j)) k

pub present_at : (ss : List Summary) (xs : List (Option Value)) (k : ℕ) → ss ≡ map summary_of xs → is_present (get_or ss k Absent) ≡ is_some (get_or xs k None)
present_at ss xs k is = grind (arith, common_steps)
