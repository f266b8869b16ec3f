use Rattle.std.proofs.Common.{Result, Ok, Err}
use Rattle.std.specs.Result.{OnErr}
use Rattle.std.proofs.lemmas.Result.{on_err_weaker}
use Rattle.kc_session.proofs.Appending.{WritesPart-first, WritesPart-second}
use Rattle.kc_session.proofs.replies.write_two.Goals as goal

always : {T E P : Type 0} (r : Result T E) → P → OnErr r P
always (Ok x) p = tt
always (Err e) p = p

pub returns-in_err-append_all-clause-err : goal.returns-in_err-append_all-clause-err
returns-in_err-append_all-clause-err g c =
    always c.from_residual.result (WritesPart-first _ _ c.args.first.now c.args.second.now c.in_err-append_all.ensures.err)

pub returns-clause-err : goal.returns-clause-err
returns-clause-err g c =
    on_err_weaker c.write_all_of.result (WritesPart-second _ _ _ c.args.first.now c.args.second.now c.in_ok-append_all.ensures.ok) c.write_all_of.ensures.err
