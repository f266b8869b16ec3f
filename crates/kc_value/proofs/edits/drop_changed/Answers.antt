use Rattle.std.proofs.Common.{◌&&◌, not, is_some, subst, sym, ap, ◌∙◌}
use Rattle.std.specs.Option.{option_copied}
use Rattle.kc_outline.specs.TreeValue.{choice_of}
use Rattle.kc_value.specs.Changes.{changed, new_user, IsChangeFor}
use Rattle.kc_value.specs.Dirty.{same_given}
use Rattle.kc_value.specs.DropWalk.{DropsAll, IsChangedNumber}
use Rattle.kc_value.specs.UserValues.{user_value}
use Rattle.kc_value.proofs.EditLemmas.{all_drops, value_drops}
use Rattle.kc_value.proofs.edits.drop_changed.Goals as goal

pub returns-in-Value-clause-drops : goal.returns-in-Value-clause-drops
returns-in-Value-clause-drops c =
    let t = c.args.tree.now in
    let u = c.args.user.now in
    let s = c.in-Value.symbol in
    let v = c.in-Value.value in
    subst (λ x. DropsAll (IsChangedNumber t u (changed t u x)) c.args.values.now c.drop_if.new.values c.args.list.now.items c.drop_if.new.list.items) (sym c.in-Value.is)
    (value_drops t u s v c.args.values.now c.drop_if.new.values c.args.list.now.items c.drop_if.new.list.items c.is_value_changed-changes.result c.number.result
    (subst (IsChangeFor t) c.in-Value.is c.requires.change).0 c.requires.user
    (c.is_value_changed-changes.ensures
    ∙ ap (λ x. not (is_some (choice_of t s)) && not (same_given x (option_copied c.as_ref.result))) c.get.ensures
    ∙ ap (λ y. not (is_some (choice_of t s)) && not (same_given (user_value u s) y)) c.as_ref.ensures.value)
    c.number.ensures.number c.drop_if.ensures.drops)

pub returns-in-All-clause-drops : goal.returns-in-All-clause-drops
returns-in-All-clause-drops c =
    let t = c.args.tree.now in
    let u = c.args.user.now in
    let w = new_user t c.in-All.next in
    subst (λ x. DropsAll (IsChangedNumber t u (changed t u x)) c.args.values.now c.drop_choices.new.values c.args.list.now.items c.drop_choices.new.list.items) (sym c.in-All.is)
    (all_drops t u w c.args.values.now c.drop_values.new.values c.drop_choices.new.values c.args.list.now.items c.drop_values.new.list.items c.drop_choices.new.list.items
    c.drop_values.ensures.drops c.drop_choices.ensures.drops)
