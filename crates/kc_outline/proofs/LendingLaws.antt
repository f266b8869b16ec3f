-- Lists with an element that is lent.
use Rattle.std.proofs.Common.{◌≡◌, ℕ, zero, suc, List, [], ◌∷◌, get_or, refl, ap, ◌∙◌}
use Rattle.kc_outline.specs.Adding.{change_at}

pub change_at_result : {A : Type 0} → (xs : List A) (i : ℕ) (x y : A) (f : A → A) → x ≡ get_or xs i x → y ≡ f x → change_at xs i (λ _. y) ≡ change_at xs i f
change_at_result [] i x y f is result = refl
change_at_result (z ∷ xs) zero x y f is result = ap (λ w. w ∷ xs) (result ∙ ap f is)
change_at_result (z ∷ xs) (suc i) x y f is result = ap (λ zs. z ∷ zs) (change_at_result xs i x y f is result)
