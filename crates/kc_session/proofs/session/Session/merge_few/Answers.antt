use Rattle.std.proofs.Common.{◌∙◌, List, ap}
use Rattle.kc_files.specs.declared.assign.Assign.{Assign}
use Rattle.kc_session.specs.Merging.{merged_one}
use Rattle.kc_session.specs.Session.{with_user}
use Rattle.kc_session.proofs.MergeLaws.{first_assign, merging_more}
use Rattle.kc_session.proofs.session.Session.merge_few.Goals as goal

pub merge_one-requires : goal.merge_one-requires
merge_one-requires c =
    first_assign c.args.self.now c.loop-assign.self c.args.assigns.items c.loop-assign.assigns.items c.pop.new.self.items c.in-Some.assign c.loop-assign.invariant
    c.in-Some.ensures.items

pub loop-assign-preserved : goal.loop-assign-preserved
loop-assign-preserved c =
    let now = c.loop-assign.self in
    let a = c.in-Some.assign in
    merging_more c.args.self.now now c.merge_one.new.self c.args.assigns.items c.loop-assign.assigns.items c.pop.new.self.items a c.facts.ensures.sound
    c.loop-assign.invariant c.in-Some.ensures.items
    (c.merge_one.ensures.session ∙ ap (λ (later : List Assign). with_user now.session (merged_one now.session.tree now.session.user a later)) c.as_slice.ensures.value)
    c.merge_one.ensures.edits
