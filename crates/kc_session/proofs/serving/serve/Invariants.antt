use Rattle.std.specs.Io.KnownBytes.{prepend_known}
use Rattle.kc_session.proofs.RunSteps.{HasServed}
use Rattle.kc_session.proofs.serving.serve.Given as goal

abbrev pub invariant-loop-found : goal.invariant-loop-found
invariant-loop-found g l =
    HasServed (g.R.Read.remaining l.initial.reader) (prepend_known l.buffers.input.bytes (g.R.Read.remaining l.reader))
    (g.W.Write.contents l.initial.writer) (g.W.Write.contents l.writer) l.initial.session l.session

abbrev pub decreases-loop-found : goal.decreases-loop-found
decreases-loop-found g l = l.buffers.input.budget
