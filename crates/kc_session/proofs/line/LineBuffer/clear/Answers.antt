use Rattle.std.proofs.Common.{refl}
use Rattle.kc_session.proofs.Holding.{held_of-nil}
use Rattle.kc_session.proofs.line.LineBuffer.clear.Goals as goal

pub returns : goal.returns
returns c = held_of-nil _ c.clear.ensures.items refl
