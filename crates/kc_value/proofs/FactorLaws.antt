-- The value of a condition is the least of the values of its factors.
use Rattle.std.proofs.Common.{◌≡◌, List, [], ◌∷◌, ◌++◌, map, Some, None, refl, sym, ap, ◌∙◌}
use Rattle.std.specs.List.{flat_map}
use Rattle.std.proofs.lemmas.List.{map-append}
use Rattle.kc_statement.specs.declared.expr.Expr.{Expr}
use Rattle.kc_statement.specs.declared.tri.Tri.{Tri}
use Rattle.kc_statement.specs.declared.tri.Tri.TheVariants.{No, Module, Yes}
use Rattle.kc_statement.specs.Tristate.{least, least_of}
use Rattle.kc_outline.specs.TreeValue.{TreeValue, BlockValue, blocks_around}
use Rattle.kc_tree.specs.ConditionTable.{Condition, own_if, own_lines, depends_around, visible_around, mode_of, dependencies_in, also, Factor, expression, factors}
use Rattle.kc_value.specs.Assignment.{Assignment}
use Rattle.kc_value.specs.ExprValue.{expr_value, conditions_value}
use Rattle.kc_value.specs.Conditions.{blocks_depend, mode_around, condition_value, factor_value}
use Rattle.kc_value.proofs.ExprLemmas.{least_yes}

least_assoc : (x y z : Tri) → least (least x y) z ≡ least x (least y z)
least_assoc No y z = refl
least_assoc Module No z = refl
least_assoc Module Module No = refl
least_assoc Module Module Module = refl
least_assoc Module Module Yes = refl
least_assoc Module Yes z = refl
least_assoc Yes y z = refl

least_of_both : (xs ys : List Tri) → least_of (xs ++ ys) ≡ least (least_of xs) (least_of ys)
least_of_both [] ys = refl
least_of_both (x ∷ xs) ys = ap (least x) (least_of_both xs ys) ∙ sym (least_assoc x (least_of xs) (least_of ys))

module _ (t : TreeValue) (a : Assignment) where
  abbrev least_factor : List Factor → Tri
  least_factor fs = least_of (map (factor_value t a) fs)

  of_lines : (es : List Expr) → conditions_value t a es ≡ least_factor (map expression es)
  of_lines [] = refl
  of_lines (e ∷ es) = ap (least (expr_value t a e)) (of_lines es)

  of_two : (xs ys : List Factor) → least_factor (xs ++ ys) ≡ least (least_factor xs) (least_factor ys)
  of_two xs ys = ap least_of (map-append (factor_value t a) xs ys) ∙ least_of_both (map (factor_value t a) xs) (map (factor_value t a) ys)

  of_blocks : (lines : BlockValue → List Expr) (bs : List BlockValue) → least_of (map (λ b. conditions_value t a (lines b)) bs) ≡ least_factor (flat_map (λ b. map expression (lines b)) bs)
  of_blocks lines [] = refl
  of_blocks lines (b ∷ bs) =
      ap (λ v. least v (least_of (map (λ b. conditions_value t a (lines b)) bs))) (of_lines (lines b))
      ∙ ap (least (least_factor (map expression (lines b)))) (of_blocks lines bs)
      ∙ sym (of_two (map expression (lines b)) (flat_map (λ b. map expression (lines b)) bs))

  pub value_of_factors : (c : Condition) → condition_value t a c ≡ least_of (map (factor_value t a) (factors t c))
  value_of_factors (own_if None) = refl
  value_of_factors (own_if (Some e)) = sym (least_yes (expr_value t a e))
  value_of_factors (own_lines es) = of_lines es
  value_of_factors (depends_around bs) = of_blocks (λ b. b.depends) bs
  value_of_factors (visible_around bs) = of_blocks (λ b. b.visible) bs
  value_of_factors (mode_of None) = refl
  value_of_factors (mode_of (Some c)) = sym (least_yes (mode_around t a (Some c)))
  value_of_factors (dependencies_in None) = refl
  value_of_factors (dependencies_in (Some d)) =
      ap (λ v. least v (blocks_depend t a (blocks_around t d.block))) (of_lines d.depends)
      ∙ ap (least (least_factor (map expression d.depends))) (of_blocks (λ b. b.depends) (blocks_around t d.block))
      ∙ sym (of_two (map expression d.depends) (flat_map (λ b. map expression b.depends) (blocks_around t d.block)))
  value_of_factors (also c d) =
      ap (λ v. least v (condition_value t a d)) (value_of_factors c) ∙ ap (least (least_factor (factors t c))) (value_of_factors d)
      ∙ sym (of_two (factors t c) (factors t d))
