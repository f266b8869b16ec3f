use Rattle.std.proofs.Common.{length, map, ◌≡◌, ◌++◌, [], Option, Some, ap, sym, ◌∙◌, subst}
use Rattle.std.specs.List.{slice_get}
use Rattle.std.specs.Option.{option_map_or}
use Rattle.std.proofs.lemmas.Option.{slice_get-get_or}
use Rattle.std.proofs.lemmas.Result.{on_ok_weaker}
use Rattle.kc_outline.specs.declared.id.BlockId.{BlockId}
use Rattle.kc_tree.specs.declared.cell.Cell.TheVariants.{Definition}
use Rattle.kc_tree.specs.Nodes.{IsNodeOf}
use Rattle.kc_tree.specs.Uses.{conditions_nodes}
use Rattle.kc_tree.specs.Cells.{cell_number, depends_cells, nodes_in}
use Rattle.kc_tree.specs.CellRows.{Adds}
use Rattle.kc_tree.proofs.CellSteps.{depends_few, row_of_condition}
use Rattle.kc_tree.proofs.WithinLaws.{conditions}
use Rattle.kc_tree.proofs.uses.reader.Reader.read_definition.Goals as goal

pub returns : goal.returns
returns c =
    let t = c.args.self.now.outline.now in
    let n = c.args.number in
    let x = c.in-Some.definition.now in
    let there : slice_get t.definitions n ≡ Some x = ap (λ ys. slice_get ys n) (sym c.definitions.ensures) ∙ slice_get-get_or c.definitions.result.now n x c.in-Some.ensures.lookup.3.0 ∙ ap Some (sym c.in-Some.ensures.lookup.1) in
    let ns = conditions_nodes t x.depends in
    let nodes = subst (λ xs. Adds (length t.symbols) c.args.row.now.items c.add_conditions.new.row.items (conditions_nodes t xs)) c.depends.ensures c.in_ok-add_conditions.ensures in
    on_ok_weaker c.add_depends.result
    (λ (e : c.add_depends.new.row.items ≡ c.each_once.new.row.items ++ map (cell_number t) (depends_cells t c.block.result)).
    row_of_condition t (Definition n) ns (depends_cells t x.block) _ _ _ _
    (ap (λ o. option_map_or (λ y. nodes_in (conditions_nodes t y.depends) ++ depends_cells t y.block) o []) there)
    (conditions t (λ m. IsNodeOf t m) (λ s h. h) x.depends) (depends_few t x.block) c.requires nodes c.each_once.ensures
    (e ∙ ap (λ (o : Option BlockId). c.each_once.new.row.items ++ map (cell_number t) (depends_cells t o)) c.block.ensures))
    c.add_depends.ensures
