-- Assignments that agree on all nodes of a tree give its menus and comments the same condition.
use Rattle.std.proofs.Common.{◌≡◌, List, [], ◌∷◌, ◌++◌, Option, Some, None, refl, ap, ◌∙◌}
use Rattle.std.specs.List.{flat_map, slice_get}
use Rattle.std.specs.Option.{option_map_or}
use Rattle.std.proofs.lemmas.Option.{slice_get_within}
use Rattle.kc_statement.specs.declared.expr.Term.{Term}
use Rattle.kc_statement.specs.declared.expr.Term.TheVariants.{Tri as Constant, Text, Symbol, Undefined}
use Rattle.kc_statement.specs.declared.expr.Expr.{Expr}
use Rattle.kc_statement.specs.declared.id.SymId.{SymId}
use Rattle.kc_outline.specs.declared.id.BlockId.{BlockId}
use Rattle.kc_outline.specs.declared.id.CommentId.{CommentId}
use Rattle.kc_outline.specs.declared.id.ChoiceId.{ChoiceId}
use Rattle.kc_tree.specs.declared.node.Node.{Node}
use Rattle.kc_tree.specs.declared.node.Node.TheVariants.{Val, Mode}
use Rattle.kc_statement.specs.declared.tri.Tri.TheVariants.{No, Yes}
use Rattle.kc_statement.specs.Formula.{Formula, atom, bare, compare, negation, group, both, either}
use Rattle.kc_tree.specs.Nodes.{IsNodeOf}
use Rattle.kc_outline.specs.TreeValue.{TreeValue, SymbolValue, BlockValue, ChoiceValue, CommentValue, modules_symbol, blocks_around}
use Rattle.kc_statement.specs.Tristate.{least}
use Rattle.kc_tree.specs.Uses.{symbol_nodes, term_nodes, formula_nodes, value_nodes, conditions_nodes}
use Rattle.kc_value.specs.Assignment.{Assignment, as_tri}
use Rattle.kc_value.specs.ExprValue.{conditions_value}
use Rattle.kc_value.specs.Conditions.{blocks_depend, mode_around, menu_value, comment_value, menu_condition, comment_condition}
use Rattle.kc_value.proofs.Agreement.{Agree, conditions_agree, blocks_depend_agrees}

module _ (t : TreeValue) (a b : Assignment) (same : (n : Node) → IsNodeOf t n → a n ≡ b n) where
  in_both_parts : (xs ys : List Node) → Agree a b xs → Agree a b ys → Agree a b (xs ++ ys)
  in_both_parts [] ys h k = k
  in_both_parts (x ∷ xs) ys h k = (h.0, in_both_parts xs ys h.1 k)

  in_each : {X : Type 0} (nodes : X → List Node) → ((x : X) → Agree a b (nodes x)) → (xs : List X) → Agree a b (flat_map nodes xs)
  in_each nodes h [] = tt
  in_each nodes h (x ∷ xs) = in_both_parts (nodes x) (flat_map nodes xs) (h x) (in_each nodes h xs)

  at_symbol : (s : SymId) → Agree a b (symbol_nodes t s)
  at_symbol s = found (slice_get t.symbols s.0) refl
    where
      found : (o : Option SymbolValue) → slice_get t.symbols s.0 ≡ o → Agree a b (option_map_or (λ x. Val s ∷ []) o [])
      found None e = tt
      found (Some x) e = (same (Val s) (slice_get_within t.symbols s.0 x e), tt)

  at_modules : (o : Option SymId) → Agree a b (option_map_or (symbol_nodes t) o [])
  at_modules None = tt
  at_modules (Some s) = at_symbol s

  at_term : (x : Term) → Agree a b (term_nodes t x)
  at_term (Constant v) = tt
  at_term (Text w) = tt
  at_term (Symbol s) = at_symbol s
  at_term (Undefined w) = tt

  at_formula : (f : Formula) → Agree a b (formula_nodes t f)
  at_formula (atom x) = at_term x
  at_formula (bare x) = at_modules (modules_symbol t)
  at_formula (compare c x y) = in_both_parts (term_nodes t x) (term_nodes t y) (at_term x) (at_term y)
  at_formula (negation f) = at_formula f
  at_formula (group f) = at_formula f
  at_formula (both f g) = in_both_parts (formula_nodes t f) (formula_nodes t g) (at_formula f) (at_formula g)
  at_formula (either f g) = in_both_parts (formula_nodes t f) (formula_nodes t g) (at_formula f) (at_formula g)

  at_condition : (e : Expr) → Agree a b (value_nodes t e)
  at_condition e = at_formula e

  same_conditions : (es : List Expr) → conditions_value t a es ≡ conditions_value t b es
  same_conditions es = conditions_agree a b t es (in_each (value_nodes t) at_condition es)

  same_blocks_depend : (blocks : List BlockValue) → blocks_depend t a blocks ≡ blocks_depend t b blocks
  same_blocks_depend blocks = blocks_depend_agrees a b t blocks (in_each (λ x. conditions_nodes t x.depends) (λ x. in_each (value_nodes t) at_condition x.depends) blocks)

  same_menu_value : (x : BlockValue) → menu_value t a x ≡ menu_value t b x
  same_menu_value x =
      let around = blocks_around t x.parent in
      ap (λ v. least v (least (blocks_depend t a around) (conditions_value t a x.visible))) (same_conditions x.depends)
      ∙ ap (λ v. least (conditions_value t b x.depends) (least v (conditions_value t a x.visible))) (same_blocks_depend around)
      ∙ ap (λ v. least (conditions_value t b x.depends) (least (blocks_depend t b around) v)) (same_conditions x.visible)

  same_mode : (o : Option ChoiceId) → mode_around t a o ≡ mode_around t b o
  same_mode None = refl
  same_mode (Some c) = found (slice_get t.choices c.0) refl
    where
      found : (o : Option ChoiceValue) → slice_get t.choices c.0 ≡ o → option_map_or (λ x. as_tri (a (Mode c))) o Yes ≡ option_map_or (λ x. as_tri (b (Mode c))) o Yes
      found None e = refl
      found (Some x) e = ap as_tri (same (Mode c) (slice_get_within t.choices c.0 x e))

  same_comment_value : (x : CommentValue) → comment_value t a x ≡ comment_value t b x
  same_comment_value x =
      let around = blocks_around t x.block in
      ap (λ v. least v (least (blocks_depend t a around) (mode_around t a x.choice))) (same_conditions x.depends)
      ∙ ap (λ v. least (conditions_value t b x.depends) (least v (mode_around t a x.choice))) (same_blocks_depend around)
      ∙ ap (λ v. least (conditions_value t b x.depends) (least (blocks_depend t b around) v)) (same_mode x.choice)

  pub same_menu_condition : (id : BlockId) → menu_condition t a id ≡ menu_condition t b id
  same_menu_condition id = found (slice_get t.blocks id.0)
    where
      found : (o : Option BlockValue) → option_map_or (menu_value t a) o No ≡ option_map_or (menu_value t b) o No
      found None = refl
      found (Some x) = same_menu_value x

  pub same_comment_condition : (id : CommentId) → comment_condition t a id ≡ comment_condition t b id
  same_comment_condition id = found (slice_get t.comments id.0)
    where
      found : (o : Option CommentValue) → option_map_or (comment_value t a) o No ≡ option_map_or (comment_value t b) o No
      found None = refl
      found (Some x) = same_comment_value x
