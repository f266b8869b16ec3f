use Rattle.std.proofs.Common.{◌≡◌, ℕ, List, Option, ap, subst}
use Rattle.std.specs.Prelude.{IfOk, option_and_then}
use Rattle.kc_files.specs.MeantComments.{meant_in}
use Rattle.kc_files.proofs.unset_comments.meant_at.Goals as goal

pub returns-in-Some : goal.returns-in-Some
returns-in-Some c =
    subst (λ (o : Option (List ℕ)). IfOk c.meant_in.result (λ s. s ≡ option_and_then (meant_in c.args.tree.now c.args.prefix.now) o)) c.in-Some.ensures c.meant_in.ensures

pub returns-in-None : goal.returns-in-None
returns-in-None c = ap (option_and_then (meant_in c.args.tree.now c.args.prefix.now)) c.in-None.ensures
