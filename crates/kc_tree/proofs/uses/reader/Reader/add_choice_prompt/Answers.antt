use Rattle.std.proofs.Common.{rules, map, ◌≡◌, ◌++◌, Some, ap, ◌∙◌}
use Rattle.std.proofs.lemmas.Result.{on_ok_weaker}
use Rattle.kc_outline.specs.declared.id.BlockId.{BlockId}
use Rattle.kc_outline.specs.TreeValue.{choice_prompt_of}
use Rattle.kc_tree.specs.Uses.{own_condition_nodes}
use Rattle.kc_tree.specs.Cells.{cell_number, depends_cells, nodes_in, visible_cells}
use Rattle.kc_tree.proofs.CellSteps.{cells_appended, cells_of_nodes, cells_some, cells_then}
use Rattle.kc_tree.proofs.uses.reader.Reader.add_choice_prompt.Goals as goal

pub returns : goal.returns
returns c =
    let t = c.args.self.now.outline.now in
    let x = c.args.choice.now in
    let p = c.in-Some.prompt.now in
    let prompt : choice_prompt_of x ≡ Some p = search rules in
    let own = own_condition_nodes t p.condition in
    let depends = depends_cells t (Some x.block) in
    let visible = visible_cells t (Some x.block) in
    let first = cells_of_nodes t _ _ own c.in_ok-add_own_condition.ensures in
    let second = cells_appended t _ _ depends (c.in_ok-add_depends.ensures ∙ ap (λ (b : BlockId). c.add_own_condition.new.row.items ++ map (cell_number t) (depends_cells t (Some b))) c.block.ensures) in
    on_ok_weaker c.add_visible.result
    (λ (e : c.add_visible.new.row.items ≡ c.add_depends.new.row.items ++ map (cell_number t) (visible_cells t (Some c.block-2.result))).
    cells_some t (λ q. nodes_in (own_condition_nodes t q.condition) ++ (depends ++ visible)) (choice_prompt_of x) p _ _ prompt
    (cells_then t _ _ _ (nodes_in own) (depends ++ visible) first
    (cells_then t _ _ _ depends visible second
    (cells_appended t _ _ visible (e ∙ ap (λ (b : BlockId). c.add_depends.new.row.items ++ map (cell_number t) (visible_cells t (Some b))) c.block-2.ensures)))))
    c.add_visible.ensures
