-- A condition reads what its factors read, all of them and nothing else.
use Rattle.std.proofs.Common.{◌≡◌, List, [], ◌∷◌, ◌++◌, map, Some, None, refl, sym, ap, ◌∙◌}
use Rattle.std.specs.List.{flat_map}
use Rattle.std.proofs.lemmas.List.{append-nil}
use Rattle.std.proofs.lemmas.Grind.{flat_map-append}
use Rattle.kc_statement.specs.declared.expr.Expr.{Expr}
use Rattle.kc_outline.specs.TreeValue.{TreeValue, BlockValue, blocks_around}
use Rattle.kc_tree.specs.ConditionTable.{Condition, own_if, own_lines, depends_around, visible_around, mode_of, dependencies_in, also, Factor, expression, factors}
use Rattle.kc_tree.specs.Uses.{value_nodes, conditions_nodes, mode_nodes, condition_nodes, factor_nodes}

module _ (t : TreeValue) where
  of_lines : (es : List Expr) → conditions_nodes t es ≡ flat_map (factor_nodes t) (map expression es)
  of_lines [] = refl
  of_lines (e ∷ es) = ap (λ ns. value_nodes t e ++ ns) (of_lines es)

  of_two : (xs ys : List Factor) → flat_map (factor_nodes t) (xs ++ ys) ≡ flat_map (factor_nodes t) xs ++ flat_map (factor_nodes t) ys
  of_two xs ys = flat_map-append (factor_nodes t) xs ys

  of_blocks : (lines : BlockValue → List Expr) (bs : List BlockValue) → flat_map (λ b. conditions_nodes t (lines b)) bs ≡ flat_map (factor_nodes t) (flat_map (λ b. map expression (lines b)) bs)
  of_blocks lines [] = refl
  of_blocks lines (b ∷ bs) =
      ap (λ ns. ns ++ flat_map (λ b. conditions_nodes t (lines b)) bs) (of_lines (lines b))
      ∙ ap (λ ns. flat_map (factor_nodes t) (map expression (lines b)) ++ ns) (of_blocks lines bs)
      ∙ sym (of_two (map expression (lines b)) (flat_map (λ b. map expression (lines b)) bs))

  pub nodes_of_factors : (c : Condition) → condition_nodes t c ≡ flat_map (factor_nodes t) (factors t c)
  nodes_of_factors (own_if None) = refl
  nodes_of_factors (own_if (Some e)) = sym (append-nil (value_nodes t e))
  nodes_of_factors (own_lines es) = of_lines es
  nodes_of_factors (depends_around bs) = of_blocks (λ b. b.depends) bs
  nodes_of_factors (visible_around bs) = of_blocks (λ b. b.visible) bs
  nodes_of_factors (mode_of None) = refl
  nodes_of_factors (mode_of (Some c)) = sym (append-nil (mode_nodes t c))
  nodes_of_factors (dependencies_in None) = refl
  nodes_of_factors (dependencies_in (Some d)) =
      ap (λ ns. ns ++ flat_map (λ b. conditions_nodes t b.depends) (blocks_around t d.block)) (of_lines d.depends)
      ∙ ap (λ ns. flat_map (factor_nodes t) (map expression d.depends) ++ ns) (of_blocks (λ b. b.depends) (blocks_around t d.block))
      ∙ sym (of_two (map expression d.depends) (flat_map (λ b. map expression b.depends) (blocks_around t d.block)))
  nodes_of_factors (also c d) =
      ap (λ ns. ns ++ condition_nodes t d) (nodes_of_factors c) ∙ ap (λ ns. flat_map (factor_nodes t) (factors t c) ++ ns) (nodes_of_factors d)
      ∙ sym (of_two (factors t c) (factors t d))
