use Rattle.std.proofs.Common.{ap, subst}
use Rattle.kc_outline.specs.TreeValue.{TreeValue}
use Rattle.kc_tree.specs.CellRows.{IsRowOf}
use Rattle.kc_tree.proofs.CellSteps.{rows_more}
use Rattle.kc_tree.proofs.uses.used_rows.Goals as goal

pub loop-number-preserved : goal.loop-number-preserved
loop-number-preserved c =
    let t = c.args.outline.now in
    let same = ap (λ r. r.now) c.new-reader.ensures in
    let made = subst (λ (x : TreeValue). IsRowOf x c.in_outline.result c.add_read.new.row.items) same c.in_ok-add_read.ensures in
    rows_more t c.loop-number.number c.loop-number.rows c.add_row.new.self c.as_slice.result.now _ c.in_outline.result c.loop-number.invariant c.in_ok-add_row.ensures.added c.as_slice.ensures.value c.in_outline.ensures made
