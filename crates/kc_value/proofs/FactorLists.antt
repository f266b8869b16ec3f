-- Lists of factors with their values.
use Rattle.std.proofs.Common.{◌≡◌, List, [], ◌∷◌, ◌++◌, map, Option, Some, None, refl, sym, ap, ◌∙◌}
use Rattle.std.specs.List.{flat_map}
use Rattle.std.proofs.lemmas.List.{append_assoc, map-append}
use Rattle.kc_statement.specs.declared.expr.Expr.{Expr}
use Rattle.kc_statement.specs.Tristate.{least_of}
use Rattle.kc_outline.specs.TreeValue.{TreeValue, BlockValue}
use Rattle.kc_tree.specs.ConditionTable.{Condition, own_lines, also, Factor as Part, expression, factors}
use Rattle.kc_value.specs.declared.factors.BlockLines.{BlockLines}
use Rattle.kc_value.specs.declared.factors.BlockLines.TheVariants.{Depends, Visible}
use Rattle.kc_value.specs.declared.factors.Factor.{Factor}
use Rattle.kc_value.specs.Assignment.{Assignment}
use Rattle.kc_value.specs.Conditions.{condition_value, factor_value}
use Rattle.kc_value.specs.Factors.{Judged, judged, judged_part, judged_expression, judged_factors, judged_of, lines_of, of_blocks, worth_of}
use Rattle.kc_value.proofs.FactorLaws.{value_of_factors}

module _ (t : TreeValue) (a : Assignment) where
  pub judged_also : (c d : Condition) → judged_factors t a (also c d) ≡ judged_factors t a c ++ judged_factors t a d
  judged_also c d = map-append (judged_part t a) (factors t c) (factors t d)

  pub judged_lines : (es : List Expr) → judged_factors t a (own_lines es) ≡ map (judged_expression t a) es
  judged_lines [] = refl
  judged_lines (e ∷ es) = ap (λ js. judged_expression t a e ∷ js) (judged_lines es)

  pub judged_blocks : (w : BlockLines) (b : BlockValue) (bs : List BlockValue)
      → judged_factors t a (of_blocks w (b ∷ bs)) ≡ judged_factors t a (own_lines (lines_of w b)) ++ judged_factors t a (of_blocks w bs)
  judged_blocks Depends b bs = map-append (judged_part t a) (map expression b.depends) (flat_map (λ b. map expression b.depends) bs)
  judged_blocks Visible b bs = map-append (judged_part t a) (map expression b.visible) (flat_map (λ b. map expression b.visible) bs)

  pub judged_no_blocks : (w : BlockLines) → judged_factors t a (of_blocks w []) ≡ []
  judged_no_blocks Depends = refl
  judged_no_blocks Visible = refl

  values_judged : (fs : List Factor) → map (λ f. f.value) fs ≡ map (λ (j : Judged). j.value) (map judged fs)
  values_judged [] = refl
  values_judged (f ∷ fs) = ap (λ vs. f.value ∷ vs) (values_judged fs)

  values_of_parts : (ps : List Part) → map (λ (j : Judged). j.value) (map (judged_part t a) ps) ≡ map (factor_value t a) ps
  values_of_parts [] = refl
  values_of_parts (p ∷ ps) = ap (λ vs. factor_value t a p ∷ vs) (values_of_parts ps)

  -- the least of their values is the value of the condition
  pub least_judged : (c : Condition) (fs : List Factor) → map judged fs ≡ judged_factors t a c → least_of (map (λ f. f.value) fs) ≡ condition_value t a c
  least_judged c fs h =
      ap least_of (values_judged fs ∙ ap (map (λ (j : Judged). j.value)) h ∙ values_of_parts (factors t c)) ∙ sym (value_of_factors t a c)

  pub least_judged_of : (o : Option Condition) (fs : List Factor) → map judged fs ≡ judged_of t a o → least_of (map (λ f. f.value) fs) ≡ worth_of t a o
  least_judged_of None fs h = ap least_of (values_judged fs ∙ ap (map (λ (j : Judged). j.value)) h)
  least_judged_of (Some c) fs h = least_judged c fs h

  -- one condition after another
  pub joined : (c d : Condition) (js : List Judged) → (js ++ judged_factors t a c) ++ judged_factors t a d ≡ js ++ judged_factors t a (also c d)
  joined c d js = append_assoc js (judged_factors t a c) (judged_factors t a d) ∙ ap (λ ks. js ++ ks) (sym (judged_also c d))
