use Rattle.std.proofs.Common.{sym, subst}
use Rattle.kc_value.specs.Kept.{AreKept, KeptValue}
use Rattle.kc_session.proofs.session.Session.with_user.Goals as goal

pub invariant_of-session : goal.invariant_of-session
invariant_of-session c = record {
  user = c.requires;
  kept = subst (λ (k : KeptValue). AreKept c.args.tree c.args.user k.values) (sym c.in-Ok.ensures.nothing) (c.new.ensures.right c.args.user);
  laws = c.new.ensures.laws;
  solved = c.new.ensures.solved;
}
