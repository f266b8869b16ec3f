use Rattle.std.proofs.Common.{◌≤◌}
use Rattle.std.specs.Io.KnownBytes.{prepend_known}
use Rattle.kc_session.proofs.TakingBody.{HasTakenLines}
use Rattle.kc_session.proofs.next_command.read_lines.Given as goal

-- the lines so far were taken and are held
abbrev pub invariant-loop-left : goal.invariant-loop-left
invariant-loop-left g l =
    HasTakenLines l.count (prepend_known l.initial.input.bytes (g.R.Read.remaining l.initial.reader)) (prepend_known l.input.bytes (g.R.Read.remaining l.reader)) l.body l.left
    × (l.input.budget ≤ l.initial.input.budget)

abbrev pub decreases-loop-left : goal.decreases-loop-left
decreases-loop-left g l = l.left
