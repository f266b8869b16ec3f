use Rattle.std.proofs.Common.{◌≡◌, [], Option, Some, None, ap, sym, ◌∙◌}
use Rattle.std.specs.List.{slice_get}
use Rattle.std.specs.Option.{option_map_or}
use Rattle.std.proofs.lemmas.Option.{slice_get-get_or, slice_get_past}
use Rattle.std.proofs.lemmas.Result.{on_ok_weaker}
use Rattle.kc_outline.specs.TreeValue.{ChoiceValue}
use Rattle.kc_tree.specs.Uses.{choice_value_nodes}
use Rattle.kc_tree.specs.Cells.{node_cells, nodes_in}
use Rattle.kc_tree.proofs.CellSteps.{cells_equal, cells_none, cells_of_nodes}
use Rattle.kc_tree.proofs.uses.reader.Reader.add_used.Goals as goal

pub returns-in-Some-get-3 : goal.returns-in-Some-get-3
returns-in-Some-get-3 c =
    let t = c.args.self.now.outline.now in
    let id = c.in-Sel.id in
    let x = c.in-Some-get-3.choice.now in
    let lookup = c.in-Some-get-3.ensures.lookup in
    let there : slice_get t.choices id.0 ≡ Some x = ap (λ ys. slice_get ys id.0) (sym c.choices-choices.ensures) ∙ slice_get-get_or c.choices-choices.result.now id.0 x lookup.3.0 ∙ ap Some (sym lookup.1) in
    let reads : nodes_in (choice_value_nodes t id x) ≡ node_cells t c.args.node = sym (ap (λ (o : Option ChoiceValue). nodes_in (option_map_or (choice_value_nodes t id) o [])) there) ∙ ap (node_cells t) (sym c.in-Sel.is) in
    on_ok_weaker c.add_selection.result
    (λ added. cells_equal t _ _ _ _ reads (cells_of_nodes t _ _ (choice_value_nodes t id x) added))
    c.add_selection.ensures

pub returns-in-None-get-3 : goal.returns-in-None-get-3
returns-in-None-get-3 c =
    let t = c.args.self.now.outline.now in
    let id = c.in-Sel.id in
    let past : slice_get t.choices id.0 ≡ None = ap (λ ys. slice_get ys id.0) (sym c.choices-choices.ensures) ∙ slice_get_past c.choices-choices.result.now id.0 c.in-None-get-3.ensures.lookup.3 in
    let reads : [] ≡ node_cells t c.args.node = sym (ap (λ (o : Option ChoiceValue). nodes_in (option_map_or (choice_value_nodes t id) o [])) past) ∙ ap (node_cells t) (sym c.in-Sel.is) in
    cells_equal t _ _ _ _ reads (cells_none t c.args.row.now.items)
