use Rattle.std.proofs.Common.{length}
use Rattle.kc_tree.specs.Uses.{value_nodes, own_condition_nodes}
use Rattle.kc_tree.specs.Cells.{default_alone_nodes}
use Rattle.kc_tree.proofs.RowLaws.{adds_none, adds_then, adds_more}
use Rattle.kc_tree.proofs.uses.reader.Reader.add_defaults.Goals as goal

pub loop-default-init : goal.loop-default-init
loop-default-init c = adds_none (length c.args.self.now.outline.now.symbols) c.args.row.now.items

pub loop-default-preserved : goal.loop-default-preserved
loop-default-preserved c =
    let t = c.args.self.now.outline.now in
    let s = length t.symbols in
    let x = c.default-item.result in
    let added = adds_then s _ _ _ (value_nodes t x.value) (own_condition_nodes t x.condition) c.in_ok-add_expr.ensures c.in_ok-add_own_condition.ensures in
    adds_more s (default_alone_nodes t) c.args.defaults.now c.loop-default.default-index x _ _ _ c.loop-default-test.true c.default-item.is c.loop-default.invariant added
