use Rattle.std.proofs.Common.{length, get_or}
use Rattle.kc_tree.specs.Uses.{visibility_node}
use Rattle.std.proofs.lemmas.List.{get_or_default}
use Rattle.kc_tree.proofs.RowLaws.{adds_none, adds_more}
use Rattle.kc_tree.proofs.uses.reader.Reader.add_visibilities.Goals as goal

pub loop-symbol-init : goal.loop-symbol-init
loop-symbol-init c = adds_none (length c.args.self.now.outline.now.symbols) c.args.row.now.items

pub loop-symbol-preserved : goal.loop-symbol-preserved
loop-symbol-preserved c =
    let i = c.loop-symbol.symbol-index in
    let xs = c.args.symbols.now in
    let x = get_or xs i (record { 0 = 0 }) in
    adds_more (length c.args.self.now.outline.now.symbols) (visibility_node c.args.self.now.outline.now) xs i x _ _ _ c.loop-symbol-test.true (get_or_default xs i (record { 0 = 0 }) x c.loop-symbol-test.true) c.loop-symbol.invariant c.in_ok-add_node.ensures
