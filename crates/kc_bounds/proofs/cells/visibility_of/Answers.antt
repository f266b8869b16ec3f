use Rattle.std.proofs.Common.{◌≡◌, Some, sym, subst, ap, ◌∙◌}
use Rattle.std.specs.List.{slice_get}
use Rattle.std.specs.Option.{option_copied}
use Rattle.kc_bounds.specs.TriSets.{IsIn}
use Rattle.kc_bounds.proofs.SolutionLaws.{visibility_is}
use Rattle.kc_bounds.proofs.cells.visibility_of.Goals as goal

pub returns-in-Some : goal.returns-in-Some
returns-in-Some c = λ w u.
    let t = c.args.bounds.now.tree in
    let at : slice_get t.symbols c.args.id.0 ≡ Some c.in-Some.symbol.now = sym c.symbol.ensures ∙ ap (λ o. option_copied o) c.in-Some.is in
    subst (IsIn c.visibility_set.result) (sym (visibility_is t w (c.tree.ensures.bounds.solved w) c.args.id c.in-Some.symbol.now at)) (c.visibility_set.ensures w u)
