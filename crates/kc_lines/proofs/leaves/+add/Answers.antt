use Rattle.std.proofs.Common.{arith}
use Rattle.kc_statement.proofs.NodeLaws.{all_falls, any_falls, not_falls, kept_as, formula_as}
use Rattle.kc_lines.proofs.leaves.+add.Goals as goal

-- ---- the parts of an expression are smaller than it
pub add_expr-add_expr-requires : goal.add_expr-add_expr-requires
add_expr-add_expr-requires t c =
    let kept = kept_as _ _ c.in-Not.is c.node.ensures.kept in
    let is = formula_as _ _ _ c.node.ensures.formula c.in-Not.is in
    let falls = not_falls c.in-Not.field-0 c.in-Not.inner.value c.args.expr.now is kept.0 in
    (rw c.deref.ensures (omega (arith, falls)), tt)

pub add_expr-add_parts-requires : goal.add_expr-add_parts-requires
add_expr-add_parts-requires t c =
    let kept = kept_as _ _ c.in-All.is c.node.ensures.kept in
    let is = formula_as _ _ _ c.node.ensures.formula c.in-All.is in
    let falls = all_falls c.in-All.parts.items c.args.expr.now is kept.0 in
    (rw c.as_slice.ensures.value (omega (arith, falls)), tt)

pub add_expr-add_parts-requires-in-Any : goal.add_expr-add_parts-requires-in-Any
add_expr-add_parts-requires-in-Any t c =
    let kept = kept_as _ _ c.in-Any.is c.node.ensures.kept in
    let is = formula_as _ _ _ c.node.ensures.formula c.in-Any.is in
    let falls = any_falls c.in-Any.parts.items c.args.expr.now is kept.0 in
    (rw c.as_slice-in-Any.ensures.value (omega (arith, falls)), tt)
