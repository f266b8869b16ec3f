use Rattle.std.proofs.Common.{get_or}
use Rattle.std.proofs.lemmas.List.{get_or_default}
use Rattle.kc_tree.specs.Cells.{value_cells}
use Rattle.kc_tree.proofs.CellSteps.{cells_none, cells_more}
use Rattle.kc_tree.proofs.uses.reader.Reader.add_all_values.Goals as goal

pub loop-number-init : goal.loop-number-init
loop-number-init c = cells_none c.args.self.now.outline.now c.args.row.now.items

pub loop-number-preserved : goal.loop-number-preserved
loop-number-preserved c =
    let t = c.args.self.now.outline.now in
    let i = c.loop-number.number-index in
    let xs = c.args.definitions.now in
    let x = get_or xs i 0 in
    cells_more t (value_cells t) xs i x _ _ _ c.loop-number-test.true (get_or_default xs i 0 x c.loop-number-test.true) c.loop-number.invariant c.in_ok-add_values.ensures
