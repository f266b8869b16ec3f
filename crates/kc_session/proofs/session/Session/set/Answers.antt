use Rattle.std.proofs.Common.{sym, ◌∙◌}
use Rattle.kc_session.proofs.Outcomes.{symbol_applied}
use Rattle.kc_session.proofs.session.Session.set.Goals as goal

pub returns-in-Some-clause-applied : goal.returns-in-Some-clause-applied
returns-in-Some-clause-applied c =
    symbol_applied c.args.self.now.session c.args.name.now c.args.value.now c.in-Some.symbol _ _ (sym c.find.ensures.symbol ∙ c.in-Some.is) c.set_symbol.ensures.outcome
