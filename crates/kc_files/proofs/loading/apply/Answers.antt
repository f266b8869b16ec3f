use Rattle.std.proofs.Common.{◌≡◌, ◌∙◌, length, sym, ap, subst, arith}
use Rattle.std.specs.Vec.Iter.{into_iter_items}
use Rattle.std.proofs.lemmas.List.{nil_from_length}
use Rattle.std.proofs.lemmas.List.Elements.{All-rest}
use Rattle.kc_files.specs.DefaultLoading.{HasNoFeeds}
use Rattle.kc_files.specs.LineReading.{IsAssignFor}
use Rattle.kc_files.specs.LoadingSteps.{loaded}
use Rattle.kc_files.proofs.LoadingLaws.{loaded_is}
use Rattle.kc_files.proofs.UnfedLoading.{after_unfed}
use Rattle.kc_files.proofs.loading.apply.Goals as goal

pub loop-assign-preserved : goal.loop-assign-preserved
loop-assign-preserved c =
    let t = c.args.tree.now in
    let left = into_iter_items c.loop-assign.assign-iterator in
    let behind = into_iter_items c.next.new.self in
    let items = c.in-Some.ensures.steps.0 in
    record {
      user = c.apply_one.ensures.user;
      assigns = All-rest (IsAssignFor t) c.in-Some.assign behind left items c.loop-assign.invariant.assigns;
      same = ap (λ u. loaded t u behind) c.apply_one.ensures.values ∙ sym (ap (loaded t c.loop-assign.user) items) ∙ c.loop-assign.invariant.same;
    }

pub returns-clause-values : goal.returns-clause-values
returns-clause-values c =
    let t = c.args.tree.now in
    let left = into_iter_items c.loop-assign.assign-iterator in
    let none : length left ≡ 0 = omega (arith, c.loop-assign.assign-iterator.rest.ok.0, c.in-None.ensures.steps.0) in
    sym (ap (loaded t c.loop-assign.user) (nil_from_length left none))
    ∙ c.loop-assign.invariant.same
    ∙ loaded_is t c.args.user.now c.args.load c.args.assigns.items c.requires.user

pub returns-clause-unfed : goal.returns-clause-unfed
returns-clause-unfed c = λ user assigns.
    subst HasNoFeeds (sym (returns-clause-values c)) (after_unfed c.args.tree.now c.args.user.now c.args.load c.args.assigns.items user assigns)

pub returns-clause-any_unfed : goal.returns-clause-any_unfed
returns-clause-any_unfed c = λ u user assigns. after_unfed c.args.tree.now u c.args.load c.args.assigns.items user assigns
