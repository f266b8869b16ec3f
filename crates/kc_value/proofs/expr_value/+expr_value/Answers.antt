use Rattle.std.proofs.Common.{◌∙◌, ap, sym, arith, true≢false}
use Rattle.kc_statement.proofs.NodeLaws.{all_falls, any_falls, not_falls, kept_as, formula_as}
use Rattle.kc_value.specs.Known.{given}
use Rattle.kc_value.specs.ExprValue.{complements, conditions_value, expr_value, formula_value}
use Rattle.kc_value.proofs.ExprLemmas.{value_negated, joined_both, joined_either, least_stopped, greatest_stopped}
use Rattle.std.proofs.lemmas.Grind.{common_steps}
use Rattle.kc_value.proofs.expr_value.+expr_value.Goals as goal
use Rattle.kc_value.proofs.expr_value.+expr_value.Goals.{any_tri-in-Yes, any_tri-in_default}

-- ---- the parts of an expression are smaller than it
pub tri-tri-requires : goal.tri-tri-requires
tri-tri-requires t c =
    let kept = kept_as _ _ c.in-Not.is c.node.ensures.kept in
    let is = formula_as _ _ _ c.node.ensures.formula c.in-Not.is in
    let falls = not_falls c.in-Not.count c.in-Not.inner.value c.args.expr.now is kept.0 in
    (rw c.deref-in-Not.ensures (omega (arith, falls)), tt)

pub tri-conditions_tri-requires : goal.tri-conditions_tri-requires
tri-conditions_tri-requires t c =
    let kept = kept_as _ _ c.in-All.is c.node.ensures.kept in
    let is = formula_as _ _ _ c.node.ensures.formula c.in-All.is in
    let falls = all_falls c.in-All.parts.items c.args.expr.now is kept.0 in
    (rw c.as_slice.ensures.value (omega (arith, falls)), tt)

pub tri-any_tri-requires : goal.tri-any_tri-requires
tri-any_tri-requires t c =
    let kept = kept_as _ _ c.in-Any.is c.node.ensures.kept in
    let is = formula_as _ _ _ c.node.ensures.formula c.in-Any.is in
    let falls = any_falls c.in-Any.parts.items c.args.expr.now is kept.0 in
    (rw c.as_slice-in-Any.ensures.value (omega (arith, falls)), tt)

-- ---- the value
pub tri-returns-in-Not : goal.tri-returns-in-Not
tri-returns-in-Not t c =
    let tree = c.args.known.now.tree in
    let a = given c.args.known.now in
    let operand = c.tri.ensures ∙ ap (expr_value tree a) c.deref-in-Not.ensures in
    let is = formula_as _ _ _ c.node.ensures.formula c.in-Not.is in
    c.negated.ensures ∙ ap (complements c.in-Not.count) operand ∙ value_negated tree a c.in-Not.count c.in-Not.inner.value c.args.expr.now is

pub tri-returns-in-All : goal.tri-returns-in-All
tri-returns-in-All t c =
    let tree = c.args.known.now.tree in
    let a = given c.args.known.now in
    let is = formula_as _ _ _ c.node.ensures.formula c.in-All.is in
    c.conditions_tri.ensures ∙ ap (conditions_value tree a) c.as_slice.ensures.value ∙ sym (joined_both tree a c.in-All.parts.items) ∙ ap (formula_value tree a) is

pub any_tri-returns : goal.any_tri-returns
any_tri-returns t c =
    let a = given c.args.known.now in
    let e = joined_either c.args.known.now.tree a c.args.parts.now in
    grind (arith, common_steps, e)

pub conditions_tri-returns-then-is_no : goal.conditions_tri-returns-then-is_no
conditions_tri-returns-then-is_no t c = least_stopped c.loop-part.least _ _ (sym c.is_no.ensures ∙ c.if-is_no.true) c.loop-part.invariant

pub any_tri-returns-then-matches : goal.any_tri-returns-then-matches
any_tri-returns-then-matches t c =
    let a = given c.args.known.now in
    elim c.match-matches.branch [
      | any_tri-in-Yes w ↦ greatest_stopped c.loop-part.greatest _ _ w.in-Yes.is c.loop-part.invariant ∙ sym (joined_either c.args.known.now.tree a c.args.parts.now)
      | any_tri-in_default w ↦ absurd (true≢false (sym c.if-matches.true ∙ w.matches-is))
    ]
