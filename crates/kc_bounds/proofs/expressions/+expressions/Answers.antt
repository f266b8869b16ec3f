use Rattle.std.proofs.Common.{◌∙◌, map, ap, sym, subst, arith}
use Rattle.std.proofs.lemmas.List.{take_all}
use Rattle.kc_statement.proofs.NodeLaws.{all_falls, any_falls, not_falls, kept_as, formula_as}
use Rattle.kc_statement.specs.Tristate.{greatest_of}
use Rattle.kc_statement.specs.declared.tri.Tri.TheVariants.{Module}
use Rattle.kc_value.specs.ExprValue.{conditions_value, formula_value}
use Rattle.kc_value.specs.Solution.{solution}
use Rattle.kc_bounds.specs.TriSets.{IsIn}
use Rattle.kc_bounds.proofs.ExprLemmas.{value_negated, joined_both, joined_either}
use Rattle.kc_bounds.proofs.TakenLists.{greatest_at, least_at}
use Rattle.kc_bounds.proofs.expressions.+expressions.Goals as goal

-- ---- the parts of an expression are smaller than it
pub expr_set-expr_set-requires : goal.expr_set-expr_set-requires
expr_set-expr_set-requires t c =
    let kept = kept_as _ _ c.in-Not.is c.node.ensures.kept in
    let is = formula_as _ _ _ c.node.ensures.formula c.in-Not.is in
    let falls = not_falls c.in-Not.count c.in-Not.inner.value c.args.expr.now is kept.0 in
    (rw c.deref-in-Not.ensures (omega (arith, falls)), tt)

pub expr_set-conditions_set-requires : goal.expr_set-conditions_set-requires
expr_set-conditions_set-requires t c =
    let kept = kept_as _ _ c.in-All.is c.node.ensures.kept in
    let is = formula_as _ _ _ c.node.ensures.formula c.in-All.is in
    let falls = all_falls c.in-All.parts.items c.args.expr.now is kept.0 in
    (rw c.as_slice.ensures.value (omega (arith, falls)), tt)

pub expr_set-any_set-requires : goal.expr_set-any_set-requires
expr_set-any_set-requires t c =
    let kept = kept_as _ _ c.in-Any.is c.node.ensures.kept in
    let is = formula_as _ _ _ c.node.ensures.formula c.in-Any.is in
    let falls = any_falls c.in-Any.parts.items c.args.expr.now is kept.0 in
    (rw c.as_slice-in-Any.ensures.value (omega (arith, falls)), tt)

-- ---- the values
pub expr_set-returns-in-BareModule : goal.expr_set-returns-in-BareModule
expr_set-returns-in-BareModule t c =
    let tree = c.args.bounds.now.tree in
    let is = formula_as _ _ _ c.node.ensures.formula c.in-BareModule.is in
    λ w u.
    subst (λ e. IsIn c.and.result (formula_value tree (solution tree w) e)) is (c.and.ensures Module _ c.only.ensures (c.modules_set.ensures w u))

pub expr_set-returns-in-Not : goal.expr_set-returns-in-Not
expr_set-returns-in-Not t c =
    let tree = c.args.bounds.now.tree in
    let is = formula_as _ _ _ c.node.ensures.formula c.in-Not.is in
    λ w u.
    let inner = subst (λ e. IsIn c.expr_set.result (formula_value tree (solution tree w) e)) c.deref-in-Not.ensures (c.expr_set.ensures w u) in
    subst (IsIn c.negated.result) (value_negated tree (solution tree w) c.in-Not.count c.in-Not.inner.value c.args.expr.now is) (c.negated.ensures _ inner)

pub expr_set-returns-in-All : goal.expr_set-returns-in-All
expr_set-returns-in-All t c =
    let tree = c.args.bounds.now.tree in
    let is = formula_as _ _ _ c.node.ensures.formula c.in-All.is in
    λ w u.
    let a = solution tree w in
    subst (IsIn c.conditions_set.result)
    (ap (conditions_value tree a) c.as_slice.ensures.value ∙ sym (joined_both tree a c.in-All.parts.items) ∙ ap (formula_value tree a) is)
    (c.conditions_set.ensures w u)

pub conditions_set-loop-part-preserved : goal.conditions_set-loop-part-preserved
conditions_set-loop-part-preserved t c = λ w u.
    let tree = c.args.bounds.now.tree in
    subst (IsIn c.and-least.result)
    (least_at (formula_value tree (solution tree w)) c.args.parts.now c.loop-part.part-index c.part-item.result c.loop-part-test.true c.part-item.is)
    (c.and-least.ensures _ _ (c.loop-part.invariant w u) (c.expr_set.ensures w u))

pub any_set-loop-part-preserved : goal.any_set-loop-part-preserved
any_set-loop-part-preserved t c = λ w u.
    let tree = c.args.bounds.now.tree in
    subst (IsIn c.or-greatest.result)
    (greatest_at (formula_value tree (solution tree w)) c.args.parts.now c.loop-part.part-index c.part-item.result c.loop-part-test.true c.part-item.is)
    (c.or-greatest.ensures _ _ (c.loop-part.invariant w u) (c.expr_set.ensures w u))

pub any_set-returns : goal.any_set-returns
any_set-returns t c =
    let tree = c.args.bounds.now.tree in
    λ w u.
    let a = solution tree w in
    let all = subst (λ xs. IsIn c.loop-part.greatest (greatest_of (map (formula_value tree a) xs))) (take_all c.loop-part.part-index c.args.parts.now (omega arith)) (c.loop-part.invariant w u) in
    subst (IsIn c.loop-part.greatest) (sym (joined_either tree a c.args.parts.now)) all
