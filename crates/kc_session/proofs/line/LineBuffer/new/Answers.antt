use Rattle.std.proofs.Common.{refl}
use Rattle.kc_session.proofs.Holding.{held_of-nil}
use Rattle.kc_session.proofs.line.LineBuffer.new.Goals as goal

pub returns-in-Ok-clause-ok : goal.returns-in-Ok-clause-ok
returns-in-Ok-clause-ok c = held_of-nil _ c.in-Ok.ensures.items refl
