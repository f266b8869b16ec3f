-- The value of expressions that one operator joins, and of those after a run of `!`.
use Rattle.std.proofs.Common.{◌≡◌, ◌≢◌, ◌%◌, ◌∙◌, ℕ, zero, suc, List, [], ◌∷◌, map, arith, refl, sym, ap}
use Rattle.kc_statement.specs.declared.tri.Tri.{Tri}
use Rattle.kc_statement.specs.declared.tri.Tri.TheVariants.{No, Module, Yes}
use Rattle.kc_statement.specs.Formula.{Formula, all_joined, any_joined, negations}
use Rattle.kc_statement.specs.Tristate.{complement, least, least_of, greatest, greatest_of}
use Rattle.kc_outline.specs.TreeValue.{TreeValue}
use Rattle.kc_value.specs.Assignment.{Assignment}
use Rattle.kc_value.specs.ExprValue.{complements, formula_value}

least_yes : (x : Tri) → least x Yes ≡ x
least_yes No = refl
least_yes Module = refl
least_yes Yes = refl

greatest_no : (x : Tri) → greatest x No ≡ x
greatest_no No = refl
greatest_no Module = refl
greatest_no Yes = refl

-- ---- runs of `!`
value_negations : (t : TreeValue) (a : Assignment) (n : ℕ) (f : Formula)
    → formula_value t a (negations n f) ≡ complements n (formula_value t a f)
value_negations t a zero f = refl
value_negations t a (suc n) f = ap complement (value_negations t a n f)

pub value_negated : (t : TreeValue) (a : Assignment) (n : ℕ) (f g : Formula) → negations n f ≡ g → complements n (formula_value t a f) ≡ formula_value t a g
value_negated t a n f g is = sym (value_negations t a n f) ∙ ap (formula_value t a) is

-- two of them cancel
complement_twice : (v : Tri) → complement (complement v) ≡ v
complement_twice No = refl
complement_twice Module = refl
complement_twice Yes = refl

pub complements_even : (n : ℕ) (v : Tri) → n % 2 ≡ 0 → complements n v ≡ v
complements_even zero v even = refl
complements_even (suc zero) v even = absurd (omega (arith, even))
complements_even (suc (suc n)) v even = complement_twice (complements n v) ∙ complements_even n v (omega (arith, even))

pub complements_odd : (n : ℕ) (v : Tri) → n % 2 ≢ 0 → complements n v ≡ complement v
complements_odd zero v odd = absurd (odd refl)
complements_odd (suc zero) v odd = refl
complements_odd (suc (suc n)) v odd = complement_twice (complements n v) ∙ complements_odd n v (λ even. odd (omega (arith, even)))

-- ---- joined expressions
-- of any number, it is the least
pub joined_both : (t : TreeValue) (a : Assignment) (fs : List Formula)
    → formula_value t a (all_joined fs) ≡ least_of (map (formula_value t a) fs)
joined_both t a [] = refl
joined_both t a (f ∷ []) = sym (least_yes (formula_value t a f))
joined_both t a (f ∷ g ∷ fs) = ap (least (formula_value t a f)) (joined_both t a (g ∷ fs))

-- and the greatest
pub joined_either : (t : TreeValue) (a : Assignment) (fs : List Formula)
    → formula_value t a (any_joined fs) ≡ greatest_of (map (formula_value t a) fs)
joined_either t a [] = refl
joined_either t a (f ∷ []) = sym (greatest_no (formula_value t a f))
joined_either t a (f ∷ g ∷ fs) = ap (greatest (formula_value t a f)) (joined_either t a (g ∷ fs))
