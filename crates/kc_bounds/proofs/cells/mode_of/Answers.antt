use Rattle.std.proofs.Common.{◌≡◌, Some, sym, subst, ap, ◌∙◌}
use Rattle.std.specs.List.{slice_get}
use Rattle.std.specs.Option.{option_copied}
use Rattle.kc_value.specs.UserValues.{chosen_in}
use Rattle.kc_bounds.specs.TriSets.{IsIn}
use Rattle.kc_bounds.proofs.SolutionLaws.{mode_is}
use Rattle.kc_bounds.proofs.cells.mode_of.Goals as goal

pub returns-in-Some : goal.returns-in-Some
returns-in-Some c = λ w u.
    let t = c.args.bounds.now.tree in
    let at : slice_get t.choices c.args.id.0 ≡ Some c.in-Some.choice.now = sym c.choice.ensures ∙ ap (λ o. option_copied o) c.in-Some.is in
    subst (IsIn c.mode_set.result) (sym (mode_is t w (c.tree.ensures.bounds.solved w) c.args.id c.in-Some.choice.now at)) (c.mode_set.ensures w u (chosen_in w c.args.id))
