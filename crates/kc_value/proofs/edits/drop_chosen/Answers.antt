use Rattle.std.proofs.Common.{◌&&◌, not, is_some, ap, ◌∙◌}
use Rattle.kc_value.specs.ChangedValue.{same_mark, same_member}
use Rattle.kc_value.specs.Without.{is_optional_choice}
use Rattle.kc_value.proofs.EditLemmas.{chosen_drops}
use Rattle.kc_value.proofs.edits.drop_chosen.Goals as goal

pub returns-clause-drops : goal.returns-clause-drops
returns-clause-drops c =
    let t = c.args.tree.now in
    let k = c.args.choice in
    let m = c.args.member in
    chosen_drops t c.args.user.now k m c.args.values.now c.drop_if.new.values c.drop_if-2.new.values c.args.list.now.items c.drop_if.new.list.items c.drop_if-2.new.list.items
    c.is_mode_changed-mode_changes.result c.is_selection_changed-selection_changes.result c.number.result c.number-2.result c.requires.inside c.requires.user
    (c.is_mode_changed-mode_changes.ensures ∙ ap (λ x. is_optional_choice t k && not (same_mark (is_some x) (is_some m))) c.chosen-chosen.ensures)
    (c.is_selection_changed-selection_changes.ensures ∙ ap (λ x. not (same_member x m)) c.chosen-chosen.ensures)
    c.number.ensures.number c.number-2.ensures.number c.drop_if.ensures.drops c.drop_if-2.ensures.drops
