use Rattle.std.proofs.Common.{length, map, ◌≡◌, ◌++◌, ◌∷◌, [], Some, ap, sym, ◌∙◌, subst}
use Rattle.std.specs.List.{flat_map, slice_get}
use Rattle.std.proofs.lemmas.Option.{slice_get-get_or}
use Rattle.std.proofs.lemmas.Result.{on_ok_weaker}
use Rattle.kc_tree.specs.declared.cell.Cell.TheVariants.{Definition}
use Rattle.kc_tree.specs.Cells.{cell_number, default_alone_nodes, definition_cells, nodes_in, range_alone_nodes}
use Rattle.kc_tree.specs.CellRows.{Adds}
use Rattle.kc_tree.proofs.RowLaws.{adds_then}
use Rattle.kc_tree.proofs.CellSteps.{cells_appended, cells_of_nodes, cells_then, cells_there, definition_there}
use Rattle.kc_tree.proofs.uses.reader.Reader.add_values.Goals as goal

pub returns : goal.returns
returns c =
    let t = c.args.self.now.outline.now in
    let n = c.args.number in
    let d = c.in-Some.definition.now in
    let s = length t.symbols in
    let there : slice_get t.definitions n ≡ Some d = ap (λ ys. slice_get ys n) (sym c.definitions.ensures) ∙ slice_get-get_or c.definitions.result.now n d c.in-Some.ensures.lookup.3.0 ∙ ap Some (sym c.in-Some.ensures.lookup.1) in
    let defaults = subst (λ xs. Adds s c.args.row.now.items c.add_defaults.new.row.items (flat_map (default_alone_nodes t) xs)) c.defaults.ensures c.in_ok-add_defaults.ensures in
    let ranges = subst (λ xs. Adds s c.add_defaults.new.row.items c.add_ranges.new.row.items (flat_map (range_alone_nodes t) xs)) c.ranges-2.ensures c.in_ok-add_ranges.ensures in
    let nodes = flat_map (default_alone_nodes t) d.defaults ++ flat_map (range_alone_nodes t) d.ranges in
    let added = adds_then s _ _ _ (flat_map (default_alone_nodes t) d.defaults) (flat_map (range_alone_nodes t) d.ranges) defaults ranges in
    on_ok_weaker c.add_definition.result
    (λ (e : c.add_definition.new.row.items ≡ c.add_ranges.new.row.items ++ map (cell_number t) (definition_cells t n)).
    cells_there t (λ x. nodes_in (flat_map (default_alone_nodes t) x.defaults ++ flat_map (range_alone_nodes t) x.ranges) ++ (Definition n ∷ [])) t.definitions n d _ _ there
    (cells_then t _ _ _ (nodes_in nodes) (Definition n ∷ []) (cells_of_nodes t _ _ nodes added) (cells_appended t _ _ (Definition n ∷ []) (e ∙ ap (λ cs. c.add_ranges.new.row.items ++ map (cell_number t) cs) (definition_there t n d there)))))
    c.add_definition.ensures
