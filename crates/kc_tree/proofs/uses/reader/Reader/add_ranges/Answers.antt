use Rattle.std.proofs.Common.{◌++◌, length}
use Rattle.kc_tree.specs.Uses.{term_nodes, own_condition_nodes}
use Rattle.kc_tree.specs.Cells.{range_alone_nodes}
use Rattle.kc_tree.proofs.RowLaws.{adds_none, adds_then, adds_more}
use Rattle.kc_tree.proofs.uses.reader.Reader.add_ranges.Goals as goal

pub loop-range-init : goal.loop-range-init
loop-range-init c = adds_none (length c.args.self.now.outline.now.symbols) c.args.row.now.items

pub loop-range-preserved : goal.loop-range-preserved
loop-range-preserved c =
    let t = c.args.self.now.outline.now in
    let s = length t.symbols in
    let x = c.range-item.result in
    let rest = adds_then s _ _ _ (term_nodes t x.high) (own_condition_nodes t x.condition) c.in_ok-add_term-2.ensures c.in_ok-add_own_condition.ensures in
    let added = adds_then s _ _ _ (term_nodes t x.low) (term_nodes t x.high ++ own_condition_nodes t x.condition) c.in_ok-add_term.ensures rest in
    adds_more s (range_alone_nodes t) c.args.ranges.now c.loop-range.range-index x _ _ _ c.loop-range-test.true c.range-item.is c.loop-range.invariant added
