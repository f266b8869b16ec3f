use Rattle.std.proofs.Common.{◌&&◌, not, is_some, ap, ◌∙◌, arith}
use Rattle.kc_outline.specs.declared.id.ChoiceId.{ChoiceId}
use Rattle.kc_value.specs.Changes.{new_user}
use Rattle.kc_value.specs.ChangedValue.{same_mark, same_member}
use Rattle.kc_value.specs.UserValues.{chosen_in}
use Rattle.kc_value.specs.Without.{is_optional_choice}
use Rattle.kc_value.proofs.EditLemmas.{choice_next}
use Rattle.kc_value.proofs.edits.drop_choices.Goals as goal

pub loop-number-preserved : goal.loop-number-preserved
loop-number-preserved c =
    let t = c.args.tree.now in
    let u = c.args.user.now in
    let w = new_user t c.args.next.now in
    let now = c.loop-number in
    let k : ChoiceId = record { 0 = now.number } in
    let to = c.next_chosen-to.result in
    record {
      drops = choice_next t u w now.number c.is_mode_changed-mode_changes.result c.is_selection_changed-selection_changes.result c.number.result c.number-in-loop-number.result
          c.args.values.now now.values c.drop_if.new.values c.drop_if-in-loop-number.new.values c.args.list.now.items now.list.items c.drop_if.new.list.items c.drop_if-in-loop-number.new.list.items
          (c.is_mode_changed-mode_changes.ensures
          ∙ ap (λ x. is_optional_choice t k && not (same_mark (is_some x) (is_some to))) c.chosen-from.ensures
          ∙ ap (λ y. is_optional_choice t k && not (same_mark (is_some (chosen_in u k)) (is_some y))) (c.next_chosen-to.ensures t))
          (c.is_selection_changed-selection_changes.ensures
          ∙ ap (λ x. not (same_member x to)) c.chosen-from.ensures
          ∙ ap (λ y. not (same_member (chosen_in u k) y)) (c.next_chosen-to.ensures t))
          c.number.ensures.number c.number-in-loop-number.ensures.number now.invariant.drops c.drop_if.ensures.drops c.drop_if-in-loop-number.ensures.drops;
      capacity = omega (arith, now.invariant.capacity, c.drop_if.ensures.capacity, c.drop_if-in-loop-number.ensures.capacity);
    }
