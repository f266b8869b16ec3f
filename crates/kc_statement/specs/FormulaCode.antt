-- A formula as a list of steps, each of which takes formulas off a pile and puts one on it: so a proof tells formulas
-- apart.
use Rattle.std.specs.Prelude.{◌≡◌, refl, ℕ, zero, suc, List, [], ◌∷◌}
use mathlib.Core.Logic.{inl, inr, ◌⊎◌}
use Rattle.std.specs.Coded.{Coded, code_by, coded_list, coded⊎, coded×, coded_ℕ}
use Rattle.kc_statement.specs.declared.expr.Term.{Term}
use Rattle.kc_statement.specs.declared.expr.Comparison.{Comparison}
use Rattle.kc_statement.specs.declared.tri.Tri.TheVariants as tri
use Rattle.kc_statement.specs.declared.expr.Term.TheVariants as term
use Rattle.kc_statement.specs.contracts.expr.Term as of_term
use Rattle.kc_statement.specs.contracts.expr.Comparison as of_comparison
use Rattle.kc_statement.specs.Formula.{Formula, atom, bare, compare, negation, group, both, either}

-- a term, a bare m, a comparison, or by number what joins the formulas on the pile
abbrev pub Step : Type 0
Step = Term ⊎ (Term ⊎ ((Comparison × (Term × Term)) ⊎ ℕ))

-- the steps of a formula, and those after it
abbrev pub steps : Formula → List Step → List Step
steps (atom x) k = inl x ∷ k
steps (bare x) k = inr (inl x) ∷ k
steps (compare c x y) k = inr (inr (inl (c, (x, y)))) ∷ k
steps (negation f) k = steps f (inr (inr (inr 0)) ∷ k)
steps (group f) k = steps f (inr (inr (inr 1)) ∷ k)
steps (both f g) k = steps f (steps g (inr (inr (inr 2)) ∷ k))
steps (either f g) k = steps f (steps g (inr (inr (inr 3)) ∷ k))

abbrev joined_top : ℕ → List Formula → List Formula
joined_top zero (f ∷ s) = negation f ∷ s
joined_top (suc zero) (f ∷ s) = group f ∷ s
joined_top (suc (suc zero)) (g ∷ f ∷ s) = both f g ∷ s
joined_top (suc (suc (suc n))) (g ∷ f ∷ s) = either f g ∷ s
joined_top n s = s

-- the pile after steps
abbrev pub pile : List Step → List Formula → List Formula
pile [] s = s
pile (inl x ∷ k) s = pile k (atom x ∷ s)
pile (inr (inl x) ∷ k) s = pile k (bare x ∷ s)
pile (inr (inr (inl (c, (x, y)))) ∷ k) s = pile k (compare c x y ∷ s)
pile (inr (inr (inr n)) ∷ k) s = pile k (joined_top n s)

abbrev pub top : List Formula → Formula
top [] = atom (term.Tri tri.No)
top (f ∷ s) = f

pub pile-steps : (f : Formula) (k : List Step) (s : List Formula) → pile (steps f k) s ≡ pile k (f ∷ s)
pile-steps (atom x) k s = refl
pile-steps (bare x) k s = refl
pile-steps (compare c x y) k s = refl
pile-steps (negation f) k s = pile-steps f (inr (inr (inr 0)) ∷ k) s
pile-steps (group f) k s = pile-steps f (inr (inr (inr 1)) ∷ k) s
pile-steps (both f g) k s = rw (pile-steps f (steps g (inr (inr (inr 2)) ∷ k)) s) (pile-steps g (inr (inr (inr 2)) ∷ k) (f ∷ s))
pile-steps (either f g) k s = rw (pile-steps f (steps g (inr (inr (inr 3)) ∷ k)) s) (pile-steps g (inr (inr (inr 3)) ∷ k) (f ∷ s))

pub top-steps : (f : Formula) → top (pile (steps f []) []) ≡ f
top-steps f = rw (pile-steps f [] []) refl

abbrev pub formula_code : Coded Formula
formula_code =
    code_by (List Step) (coded_list (coded⊎ of_term.the_row.coded (coded⊎ of_term.the_row.coded (coded⊎ (coded× of_comparison.the_row.coded (coded× of_term.the_row.coded of_term.the_row.coded)) coded_ℕ)))) (λ f. steps f []) (λ c. top (pile c [])) top-steps
