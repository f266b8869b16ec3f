use Rattle.std.proofs.Common.{sym, subst}
use Rattle.kc_value.specs.Kept.{AreKept, KeptValue}
use Rattle.kc_value.specs.UserValues.{IsUserFor}
use Rattle.kc_how_search.proofs.trial.Trial.new.Goals as goal

pub invariant_of-result : goal.invariant_of-result
invariant_of-result c =
    let t = c.args.tree.now in
    record {
      given = c.requires;
      user = subst (IsUserFor t) (sym c.in_ok-copy.ensures) c.requires;
      kept = subst (λ (k : KeptValue). AreKept t c.in_ok-copy.field-0 k.values) (sym c.in_ok-kept.ensures.nothing) (c.new.ensures.right c.in_ok-copy.field-0);
    }
