use Rattle.std.proofs.Common.{List, length, ◌∙◌, ap, subst, arith}
use Rattle.std.specs.Result.{OnOk}
use Rattle.std.specs.List.{flat_map}
use Rattle.kc_statement.proofs.NodeLaws.{all_falls, any_falls, not_falls, kept_as, formula_as}
use Rattle.kc_tree.specs.declared.node.Node.{Node}
use Rattle.kc_tree.specs.Uses.{value_nodes}
use Rattle.kc_tree.specs.CellRows.{Adds}
use Rattle.kc_tree.proofs.RowLaws.{adds_none, adds_more}
use Rattle.kc_tree.proofs.ExprLaws.{value_negated, all_parts, any_parts}
use Rattle.kc_tree.proofs.uses.reader.Reader.+add_expr.Goals as goal

-- ---- the parts of an expression are smaller than it
pub add_expr-add_expr-requires : goal.add_expr-add_expr-requires
add_expr-add_expr-requires t c =
    let kept = kept_as _ _ c.in-Not.is c.node.ensures.kept in
    let is = formula_as _ _ _ c.node.ensures.formula c.in-Not.is in
    let falls = not_falls c.in-Not.field-0 c.in-Not.inner.value c.args.expr.now is kept.0 in
    (rw c.deref-in-Not.ensures (omega (arith, falls)), tt)

pub add_expr-add_conditions-requires : goal.add_expr-add_conditions-requires
add_expr-add_conditions-requires t c =
    let kept = kept_as _ _ c.in-All.is c.node.ensures.kept in
    let is = formula_as _ _ _ c.node.ensures.formula c.in-All.is in
    let falls = all_falls c.in-All.parts.items c.args.expr.now is kept.0 in
    (rw c.as_slice.ensures.value (omega (arith, falls)), tt)

pub add_expr-add_conditions-requires-in-Any : goal.add_expr-add_conditions-requires-in-Any
add_expr-add_conditions-requires-in-Any t c =
    let kept = kept_as _ _ c.in-Any.is c.node.ensures.kept in
    let is = formula_as _ _ _ c.node.ensures.formula c.in-Any.is in
    let falls = any_falls c.in-Any.parts.items c.args.expr.now is kept.0 in
    (rw c.as_slice-in-Any.ensures.value (omega (arith, falls)), tt)

-- ---- what they read
pub add_expr-returns-in-Not : goal.add_expr-returns-in-Not
add_expr-returns-in-Not t c =
    let tree = c.args.self.now.outline.now in
    let is = formula_as _ _ _ c.node.ensures.formula c.in-Not.is in
    let P : List Node → Type 0 = λ ns. OnOk c.add_expr.result (Adds (length tree.symbols) c.args.row.now.items c.add_expr.new.row.items ns) in
    subst P (ap (value_nodes tree) c.deref-in-Not.ensures ∙ value_negated tree c.in-Not.field-0 c.in-Not.inner.value c.args.expr.now is) c.add_expr.ensures

pub add_expr-returns-in-All : goal.add_expr-returns-in-All
add_expr-returns-in-All t c =
    let tree = c.args.self.now.outline.now in
    let is = formula_as _ _ _ c.node.ensures.formula c.in-All.is in
    let P : List Node → Type 0 = λ ns. OnOk c.add_conditions.result (Adds (length tree.symbols) c.args.row.now.items c.add_conditions.new.row.items ns) in
    subst P (ap (flat_map (value_nodes tree)) c.as_slice.ensures.value ∙ all_parts tree c.in-All.parts.items c.args.expr.now is) c.add_conditions.ensures

pub add_expr-returns-in-Any : goal.add_expr-returns-in-Any
add_expr-returns-in-Any t c =
    let tree = c.args.self.now.outline.now in
    let is = formula_as _ _ _ c.node.ensures.formula c.in-Any.is in
    let P : List Node → Type 0 = λ ns. OnOk c.add_conditions-in-Any.result (Adds (length tree.symbols) c.args.row.now.items c.add_conditions-in-Any.new.row.items ns) in
    subst P (ap (flat_map (value_nodes tree)) c.as_slice-in-Any.ensures.value ∙ any_parts tree c.in-Any.parts.items c.args.expr.now is) c.add_conditions-in-Any.ensures

-- ---- one after another
pub add_conditions-loop-condition-init : goal.add_conditions-loop-condition-init
add_conditions-loop-condition-init t c = adds_none (length c.args.self.now.outline.now.symbols) c.args.row.now.items

pub add_conditions-loop-condition-preserved : goal.add_conditions-loop-condition-preserved
add_conditions-loop-condition-preserved t c = adds_more (length c.args.self.now.outline.now.symbols) (value_nodes c.args.self.now.outline.now) c.args.conditions.now c.loop-condition.condition-index c.condition-item.result _ _ _ c.loop-condition-test.true c.condition-item.is c.loop-condition.invariant c.in_ok-add_expr.ensures
