use Rattle.kc_tree.specs.Cells.{reverse_cells}
use Rattle.kc_tree.proofs.CellSteps.{cells_none, cells_more}
use Rattle.kc_tree.proofs.uses.reader.Reader.add_reverses.Goals as goal

pub loop-reverse-init : goal.loop-reverse-init
loop-reverse-init c = cells_none c.args.self.now.outline.now c.args.row.now.items

pub loop-reverse-preserved : goal.loop-reverse-preserved
loop-reverse-preserved c =
    let t = c.args.self.now.outline.now in
    cells_more t (reverse_cells t) c.args.reverses.now c.loop-reverse.reverse-index c.reverse-item.result _ _ _ c.loop-reverse-test.true c.reverse-item.is c.loop-reverse.invariant c.in_ok-add_reverse.ensures
