use Rattle.kc_session.proofs.Appending.{WritesBefore-more}
use Rattle.kc_session.proofs.writing.append_all.Goals as goal

pub loop-rest-preserved : goal.loop-rest-preserved
loop-rest-preserved g c = WritesBefore-more _ _ _ _ c.loop-rest.rest.now _ c.loop-rest.invariant c.in-Ok.ensures.bytes
