use Rattle.std.proofs.Common.{length}
use Rattle.kc_session.specs.Output.{WritesBefore}
use Rattle.kc_session.proofs.writing.append_all.Given as goal

-- the writer took what stands before the rest
abbrev pub invariant-loop-rest : goal.invariant-loop-rest
invariant-loop-rest g l =
    WritesBefore (g.W.Write.contents l.initial.writer) (g.W.Write.contents l.writer) l.bytes l.rest

abbrev pub decreases-loop-rest : goal.decreases-loop-rest
decreases-loop-rest g l = length l.rest
