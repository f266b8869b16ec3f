use Rattle.std.proofs.Common.{subst}
use Rattle.std.specs.Prelude.{IfSome, ℕ, Option}
use Rattle.kc_outline.specs.TreeValue.{TreeValue}
use Rattle.kc_how.specs.Impossible.{IsImpossible}
use Rattle.kc_program.proofs.how.or_impossible.Goals as goal

pub returns-in-Some : goal.returns-in-Some
returns-in-Some c =
    let wanted = c.args.wanted.now in
    let limits = c.in_ok-limits.limits in
    let at_bounds : IsImpossible limits.tree wanted c.in-Some.index =
    subst (λ (found : Option ℕ). IfSome found (IsImpossible limits.tree wanted)) c.in-Some.is c.first_impossible.ensures in
    subst (λ (t : TreeValue). IsImpossible t wanted c.in-Some.index) c.in_ok-limits.ensures at_bounds
