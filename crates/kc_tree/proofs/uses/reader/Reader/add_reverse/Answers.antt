use Rattle.std.proofs.Common.{length, map, ◌≡◌, ◌++◌}
use Rattle.std.proofs.lemmas.Result.{on_ok_weaker}
use Rattle.kc_tree.specs.Uses.{symbol_nodes, own_condition_nodes}
use Rattle.kc_tree.specs.Cells.{cell_number, definition_cells, nodes_in}
use Rattle.kc_tree.proofs.RowLaws.{adds_then}
use Rattle.kc_tree.proofs.CellSteps.{cells_appended, cells_of_nodes, cells_then}
use Rattle.kc_tree.proofs.uses.reader.Reader.add_reverse.Goals as goal

pub returns : goal.returns
returns c =
    let t = c.args.self.now.outline.now in
    let r = c.args.reverse.now in
    let nodes = symbol_nodes t r.by ++ own_condition_nodes t r.condition in
    let added = adds_then (length t.symbols) _ _ _ (symbol_nodes t r.by) (own_condition_nodes t r.condition) c.in_ok-add_node.ensures c.in_ok-add_own_condition.ensures in
    on_ok_weaker c.add_definition.result
    (λ (e : c.add_definition.new.row.items ≡ c.add_own_condition.new.row.items ++ map (cell_number t) (definition_cells t r.definition)).
    cells_then t _ _ _ (nodes_in nodes) (definition_cells t r.definition) (cells_of_nodes t _ _ nodes added) (cells_appended t _ _ (definition_cells t r.definition) e))
    c.add_definition.ensures
