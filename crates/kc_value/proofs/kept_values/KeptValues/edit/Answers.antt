use Rattle.std.proofs.Common.{length, subst, sym, ap, arith}
use Rattle.kc_value.specs.Changes.{changed}
use Rattle.kc_value.specs.DropWalk.{IsChangedNumber, IsDropped}
use Rattle.kc_value.specs.Kept.{KeptValue}
use Rattle.kc_value.proofs.DirtyLaws.{kept_after}
use Rattle.kc_value.proofs.DropSteps.{walk_begun}
use Rattle.kc_value.proofs.EditLemmas.{dropped_edits, drops_begun, listed_inside}
use Rattle.kc_value.proofs.KeptCounts.{value_count-within}
use Rattle.kc_value.proofs.SolutionLaws.{one_solution}
use Rattle.kc_value.proofs.kept_values.KeptValues.edit.Goals as goal

pub drop_changed-requires-clause-room : goal.drop_changed-requires-clause-room
drop_changed-requires-clause-room c = omega (arith, ap length c.clear.ensures.items, c.clear.ensures.capacity, value_count-within c.self.inside.values, c.self.invariant)

pub walk-requires-clause-room : goal.walk-requires-clause-room
walk-requires-clause-room c =
    omega (arith, ap length c.clear.ensures.items, c.clear.ensures.capacity, value_count-within c.self.inside.values, c.self.invariant, c.drop_changed.ensures.drops.room, c.drop_changed.ensures.capacity)

-- over the values of before, and from no list
pub walk-requires-clause-inside : goal.walk-requires-clause-inside
walk-requires-clause-inside c =
    let t = c.args.tree.now in
    let u = c.args.user.now in
    let w = changed t u c.args.change in
    let list = c.drop_changed.new.list.items in
    listed_inside t u w c.args.self.now.values c.drop_changed.new.values list
    (drops_begun (IsChangedNumber t u w) c.self.inside.values c.args.self.now.values c.drop_changed.new.values c.clear.new.self.items list
    (ap (λ (k : KeptValue). k.values) c.self.view_is) c.clear.ensures.items c.drop_changed.ensures.drops)

-- all that the edit changes is gone after the walk
walked : (c : goal.After-make) → IsDropped c.args.tree.now c.args.user.now c.make.new.self c.args.self.now.values c.walk.new.values
walked c =
    let t = c.args.tree.now in
    let u = c.args.user.now in
    let w = changed t u c.args.change in
    let old = c.args.self.now.values in
    let list = c.drop_changed.new.list.items in
    let closed = c.requires.kept.closed in
    subst (λ x. IsDropped t u x old c.walk.new.values) (sym c.make.ensures.values)
    (c.walk.ensures.drops u w old closed
    (walk_begun t c.walk.ensures.laws u w old closed c.drop_changed.new.values list
    (drops_begun (IsChangedNumber t u w) c.self.inside.values old c.drop_changed.new.values c.clear.new.self.items list
    (ap (λ (k : KeptValue). k.values) c.self.view_is) c.clear.ensures.items c.drop_changed.ensures.drops)))

pub returns-clause-edits : goal.returns-clause-edits
returns-clause-edits c =
    dropped_edits c.args.tree.now c.args.user.now c.make.new.self c.args.self.now (record { values = c.walk.new.values; evals = c.self.inside.meter }) (walked c)
    (ap (λ (k : KeptValue). k.evals) c.self.view_is)

pub returns-clause-kept : goal.returns-clause-kept
returns-clause-kept c =
    kept_after c.args.tree.now c.args.user.now c.make.new.self c.walk.ensures.accepted c.walk.ensures.laws c.args.self.now.values c.walk.new.values c.requires.kept (walked c)

pub returns-clause-solved : goal.returns-clause-solved
returns-clause-solved c = λ u. one_solution c.args.tree.now u c.walk.ensures.accepted
