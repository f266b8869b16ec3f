use Rattle.std.proofs.Common.{arith, Result, Ok, Err}
use Rattle.std.specs.Result.{OnErr}
use Rattle.kc_session.proofs.TakingBody.{HasTakenLines-more, TakesEndedBody-all, TakesLastBody-nothing, TakesLastBody-last, StopsInBody-line}
use Rattle.kc_session.proofs.next_command.read_lines.Goals as goal

always : {T E P : Type 0} (r : Result T E) → P → OnErr r P
always (Ok x) p = tt
always (Err e) p = p

pub loop-left-preserved : goal.loop-left-preserved
loop-left-preserved g c =
    (HasTakenLines-more _ _ _ _ _ _ c.read_line.new.line _ _ c.loop-left.invariant.0 (rw c.in-Ended.is at c.in_ok-read_line.ensures.ok) c.push_line.ensures (omega arith), omega (arith, c.read_line.ensures.budget, c.loop-left.invariant.1))

pub returns-in_err-read_line-clause-err : goal.returns-in_err-read_line-clause-err
returns-in_err-read_line-clause-err g c =
    always c.from_residual.result (StopsInBody-line _ _ _ _ _ _ c.loop-left.invariant.0 c.in_err-read_line.ensures.err (omega arith))

pub returns-in-Unended-clause-ok : goal.returns-in-Unended-clause-ok
returns-in-Unended-clause-ok g c =
    TakesLastBody-last _ _ _ _ _ _ c.read_line.new.line _ c.loop-left.invariant.0 (rw c.in-Unended.is at c.in_ok-read_line.ensures.ok) (omega arith) c.push_last.ensures.all c.push_last.ensures.few

pub returns-in-Nothing-clause-ok : goal.returns-in-Nothing-clause-ok
returns-in-Nothing-clause-ok g c =
    TakesLastBody-nothing _ _ _ _ _ _ _ c.loop-left.invariant.0 (rw c.in-Nothing.is at c.in_ok-read_line.ensures.ok) (omega arith) c.end_early.ensures

pub returns-clause-ok : goal.returns-clause-ok
returns-clause-ok g c = TakesEndedBody-all _ _ _ _ _ c.loop-left.invariant.0 (omega arith)
