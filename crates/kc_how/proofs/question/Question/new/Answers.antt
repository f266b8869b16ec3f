use Rattle.std.proofs.Common.{◌≡◌, sym, subst}
use Rattle.std.specs.Prelude.{All}
use Rattle.kc_outline.specs.TreeValue.{TreeValue}
use Rattle.kc_value.specs.Kept.{AreKept, KeptValue}
use Rattle.kc_value.specs.UserValues.{UserValues, IsUserFor}
use Rattle.kc_files.specs.LineReading.{IsAssignFor}
use Rattle.kc_how.proofs.question.Question.new.Goals as goal

pub invariant_of-result : goal.invariant_of-result
invariant_of-result c =
    let t = c.tree-tree.result.now in
    let u = c.user-user.result.now in
    let tree = c.tree-tree.ensures.tree in
    let user = c.user-user.ensures.user in
    let fits : IsUserFor t u =
    subst (λ (p : TreeValue × UserValues). IsUserFor p.0 p.1) (λ i. (sym tree i, sym user i)) c.user-user.ensures.fitting in
    let copied : c.in_ok-copy.field-0 ≡ u = c.in_ok-copy.ensures in
    record {
      user = fits;
      wanted = subst (λ (x : TreeValue). All (IsAssignFor x) c.args.wanted.now) (sym tree) c.requires;
      tried = subst (IsUserFor t) (sym copied) fits;
      kept = subst (λ (k : KeptValue). AreKept t c.in_ok-copy.field-0 k.values) (sym c.in_ok-kept.ensures.nothing) (c.new.ensures.right c.in_ok-copy.field-0);
    }
