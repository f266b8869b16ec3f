use Rattle.std.proofs.Common.{rules, map, ◌≡◌, ◌++◌, ◌∷◌, [], Option, Some, ap, sym, ◌∙◌}
use Rattle.std.specs.List.{slice_get}
use Rattle.std.specs.Option.{option_map_or}
use Rattle.std.proofs.lemmas.Option.{slice_get-get_or}
use Rattle.std.proofs.lemmas.Result.{on_ok_weaker}
use Rattle.kc_outline.specs.declared.id.BlockId.{BlockId}
use Rattle.kc_outline.specs.TreeValue.{prompt_of}
use Rattle.kc_tree.specs.declared.cell.Cell.TheVariants.{Definition}
use Rattle.kc_tree.specs.Uses.{own_condition_nodes}
use Rattle.kc_tree.specs.Cells.{cell_number, nodes_in, visible_cells}
use Rattle.kc_tree.proofs.CellSteps.{cells_appended, cells_of_nodes, cells_some, cells_then, cells_there, definition_there}
use Rattle.kc_tree.proofs.uses.reader.Reader.add_prompt.Goals as goal

pub returns : goal.returns
returns c =
    let t = c.args.self.now.outline.now in
    let n = c.args.number in
    let d = c.in-Some.definition.now in
    let p = c.in-Some-prompt.prompt.now in
    let there : slice_get t.definitions n ≡ Some d = ap (λ ys. slice_get ys n) (sym c.definitions.ensures) ∙ slice_get-get_or c.definitions.result.now n d c.in-Some.ensures.lookup.3.0 ∙ ap Some (sym c.in-Some.ensures.lookup.1) in
    let prompt : prompt_of d ≡ Some p = search rules in
    let own = own_condition_nodes t p.condition in
    let first = cells_of_nodes t _ _ own c.in_ok-add_own_condition.ensures in
    let second = cells_appended t _ _ (Definition n ∷ []) (c.in_ok-add_definition.ensures ∙ ap (λ cs. c.add_own_condition.new.row.items ++ map (cell_number t) cs) (definition_there t n d there)) in
    on_ok_weaker c.add_visible.result
    (λ (e : c.add_visible.new.row.items ≡ c.add_definition.new.row.items ++ map (cell_number t) (visible_cells t c.block.result)).
    cells_there t (λ x. option_map_or (λ q. nodes_in (own_condition_nodes t q.condition) ++ (Definition n ∷ visible_cells t x.block)) (prompt_of x) []) t.definitions n d _ _ there
    (cells_some t (λ q. nodes_in (own_condition_nodes t q.condition) ++ (Definition n ∷ visible_cells t d.block)) (prompt_of d) p _ _ prompt
    (cells_then t _ _ _ (nodes_in own) (Definition n ∷ visible_cells t d.block) first
    (cells_then t _ _ _ (Definition n ∷ []) (visible_cells t d.block) second
    (cells_appended t _ _ (visible_cells t d.block) (e ∙ ap (λ (o : Option BlockId). c.add_definition.new.row.items ++ map (cell_number t) (visible_cells t o)) c.block.ensures))))))
    c.add_visible.ensures
