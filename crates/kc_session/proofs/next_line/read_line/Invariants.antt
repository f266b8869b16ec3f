use Rattle.std.specs.Io.KnownBytes.{prepend_known}
use Rattle.kc_session.proofs.Taking.{HasTaken}
use Rattle.kc_session.proofs.next_line.read_line.Given as goal

-- a beginning of a line was taken and is held
abbrev pub invariant-loop-input : goal.invariant-loop-input
invariant-loop-input g l =
    HasTaken (prepend_known l.initial.input.bytes (g.R.Read.remaining l.initial.reader)) (prepend_known l.input.bytes (g.R.Read.remaining l.reader)) l.line l.initial.input.budget l.input.budget

abbrev pub decreases-loop-input : goal.decreases-loop-input
decreases-loop-input g l = l.input.budget
