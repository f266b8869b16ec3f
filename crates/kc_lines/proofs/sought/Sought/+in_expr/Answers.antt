use Rattle.std.proofs.Common.{◌∙◌, ap, arith}
use Rattle.std.specs.List.{list_any}
use Rattle.kc_statement.proofs.NodeLaws.{all_falls, any_falls, not_falls, kept_as, formula_as}
use Rattle.kc_lines.specs.LoopSteps.{reads}
use Rattle.kc_lines.proofs.LoopLaws.{read_by_all, read_by_any, read_negated}
use Rattle.kc_lines.proofs.sought.Sought.+in_expr.Goals as goal

-- ---- the parts of an expression are smaller than it
pub in_expr-in_expr-requires : goal.in_expr-in_expr-requires
in_expr-in_expr-requires t c =
    let kept = kept_as _ _ c.in-Not.is c.node.ensures.kept in
    let is = formula_as _ _ _ c.node.ensures.formula c.in-Not.is in
    let falls = not_falls c.in-Not.field-0 c.in-Not.inner.value c.args.expr.now is kept.0 in
    (rw c.deref-in-Not.ensures (omega (arith, falls)), tt)

pub in_expr-in_some-requires : goal.in_expr-in_some-requires
in_expr-in_some-requires t c =
    let kept = kept_as _ _ c.in-All.is c.node.ensures.kept in
    let is = formula_as _ _ _ c.node.ensures.formula c.in-All.is in
    let falls = all_falls c.in-All.parts.items c.args.expr.now is kept.0 in
    (rw c.as_slice.ensures.value (omega (arith, falls)), tt)

pub in_expr-in_some-requires-in-Any : goal.in_expr-in_some-requires-in-Any
in_expr-in_some-requires-in-Any t c =
    let kept = kept_as _ _ c.in-Any.is c.node.ensures.kept in
    let is = formula_as _ _ _ c.node.ensures.formula c.in-Any.is in
    let falls = any_falls c.in-Any.parts.items c.args.expr.now is kept.0 in
    (rw c.as_slice-in-Any.ensures.value (omega (arith, falls)), tt)

-- ---- what they read
pub in_expr-returns-in-Not : goal.in_expr-returns-in-Not
in_expr-returns-in-Not t c =
    let tree = c.args.self.now.outline.now in
    let node = c.args.self.now.node in
    let is = formula_as _ _ _ c.node.ensures.formula c.in-Not.is in
    c.in_expr.ensures ∙ ap (reads tree node) c.deref-in-Not.ensures ∙ read_negated tree node c.in-Not.field-0 c.in-Not.inner.value c.args.expr.now is

pub in_expr-returns-in-All : goal.in_expr-returns-in-All
in_expr-returns-in-All t c =
    let tree = c.args.self.now.outline.now in
    let node = c.args.self.now.node in
    let is = formula_as _ _ _ c.node.ensures.formula c.in-All.is in
    c.in_some.ensures ∙ ap (list_any (reads tree node)) c.as_slice.ensures.value ∙ read_by_all tree node c.in-All.parts.items c.args.expr.now is

pub in_expr-returns-in-Any : goal.in_expr-returns-in-Any
in_expr-returns-in-Any t c =
    let tree = c.args.self.now.outline.now in
    let node = c.args.self.now.node in
    let is = formula_as _ _ _ c.node.ensures.formula c.in-Any.is in
    c.in_some-in-Any.ensures ∙ ap (list_any (reads tree node)) c.as_slice-in-Any.ensures.value ∙ read_by_any tree node c.in-Any.parts.items c.args.expr.now is
