use Rattle.std.proofs.Common.{ap, ◌∙◌}
use Rattle.std.proofs.lemmas.Result.{err_from_is_err_and, on_err_weaker, on_ok_weaker}
use Rattle.kc_session.specs.Commands.{lines_asked, request_of_text}
use Rattle.kc_session.proofs.RunSteps.{HasServed-nil, HasServed-more, ServesAll-nothing, StopsReading-part, StopsWriting-whole, Serves-last, whole_unfed, last_unfed}
use Rattle.kc_session.proofs.TakingBody.{StopsInCommand-line}
use Rattle.kc_session.proofs.serving.serve.Goals as goal

pub loop-found-init : goal.loop-found-init
loop-found-init g c = HasServed-nil _ _ _ _ c.requires c.facts.ensures.right

pub returns-in_err-found-clause-served : goal.returns-in_err-found-clause-served
returns-in_err-found-clause-served g c =
    let p = err_from_is_err_and c.from_residual.result c.from_residual.ensures.1 in
    rw (p.1, p.2, c.in_err-found.ensures.fault)
    (StopsReading-part _ _ _ _ _ _ _ _ c.loop-found.invariant (StopsInCommand-line _ _ c.in_err-found.ensures.err) c.in_err-found.ensures.used_up)

pub returns-in_err-read-clause-served : goal.returns-in_err-read-clause-served
returns-in_err-read-clause-served g c =
    let asks = c.read_request-request.ensures ∙ ap request_of_text c.text.ensures in
    let p = err_from_is_err_and c.from_residual-in_err-read.result c.from_residual-in_err-read.ensures.1 in
    rw (p.1, p.2, c.in_err-read.ensures.fault)
    (StopsReading-part _ _ _ _ _ _ _ _ c.loop-found.invariant
    (c.in_err-read.ensures.err _ c.read_line.new.line c.in_ok-found.ensures.ok (c.body_lines-count.ensures ∙ ap lines_asked asks)) c.in_err-read.ensures.used_up)

pub loop-found-preserved : goal.loop-found-preserved
loop-found-preserved g c =
    let line = c.read_line.new.line in
    let asks = c.read_request-request.ensures ∙ ap request_of_text c.text.ensures in
    let takes = c.in_ok-read.ensures.ok _ line c.in_ok-found.ensures.ok (c.body_lines-count.ensures ∙ ap lines_asked asks) in
    HasServed-more _ _ _ _ _ _ line c.read_body.new.body _ _ _ c.loop-found.invariant (rw c.in-Whole.is at takes)
    (λ command. c.in_ok-answer-in-Whole.ensures.ok line command asks) (λ command. c.in_ok-answer-in-Whole.ensures.unfed line command asks)

pub returns-in_err-answer-in-Whole-clause-served : goal.returns-in_err-answer-in-Whole-clause-served
returns-in_err-answer-in-Whole-clause-served g c =
    let line = c.read_line.new.line in
    let asks = c.read_request-request.ensures ∙ ap request_of_text c.text.ensures in
    let takes = c.in_ok-read.ensures.ok _ line c.in_ok-found.ensures.ok (c.body_lines-count.ensures ∙ ap lines_asked asks) in
    let p = err_from_is_err_and c.from_residual-in_err-answer-in-Whole.result c.from_residual-in_err-answer-in-Whole.ensures.1 in
    rw (p.1, p.2, c.in_err-answer-in-Whole.ensures.fault)
    (StopsWriting-whole _ _ _ _ _ _ line c.read_body.new.body _ _ _ c.loop-found.invariant (rw c.in-Whole.is at takes) (λ command. c.in_err-answer-in-Whole.ensures.err line command asks))

pub returns-in_err-answer-in-Whole-clause-unfed : goal.returns-in_err-answer-in-Whole-clause-unfed
returns-in_err-answer-in-Whole-clause-unfed g c user =
    let line = c.read_line.new.line in
    let asks = c.read_request-request.ensures ∙ ap request_of_text c.text.ensures in
    let takes = c.in_ok-read.ensures.ok _ line c.in_ok-found.ensures.ok (c.body_lines-count.ensures ∙ ap lines_asked asks) in
    whole_unfed _ _ _ _ (rw c.in-Whole.is at takes) (λ command. c.in_err-answer-in-Whole.ensures.unfed line command asks) (c.loop-found.invariant.unfed user)

pub returns-in-Last-clause-served : goal.returns-in-Last-clause-served
returns-in-Last-clause-served g c =
    let line = c.read_line.new.line in
    let asks = c.read_request-request.ensures ∙ ap request_of_text c.text.ensures in
    let takes = c.in_ok-read.ensures.ok _ line c.in_ok-found.ensures.ok (c.body_lines-count.ensures ∙ ap lines_asked asks) in
    Serves-last c.answer-in-Last.result _ _ _ _ _ _ _ line c.read_body.new.body _ _ _ c.loop-found.invariant (rw c.in-Last.is at takes)
    (on_ok_weaker c.answer-in-Last.result (λ all command. all line command asks) c.answer-in-Last.ensures.ok)
    (on_err_weaker c.answer-in-Last.result (λ all command. all line command asks) c.answer-in-Last.ensures.err) c.answer-in-Last.ensures.fault

pub returns-in-Last-clause-unfed : goal.returns-in-Last-clause-unfed
returns-in-Last-clause-unfed g c user =
    let line = c.read_line.new.line in
    let asks = c.read_request-request.ensures ∙ ap request_of_text c.text.ensures in
    let takes = c.in_ok-read.ensures.ok _ line c.in_ok-found.ensures.ok (c.body_lines-count.ensures ∙ ap lines_asked asks) in
    last_unfed _ _ _ _ (rw c.in-Last.is at takes) (λ command. c.answer-in-Last.ensures.unfed line command asks) (c.loop-found.invariant.unfed user)

pub returns-in-Nothing-clause-served : goal.returns-in-Nothing-clause-served
returns-in-Nothing-clause-served g c =
    let asks = c.read_request-request.ensures ∙ ap request_of_text c.text.ensures in
    let takes = c.in_ok-read.ensures.ok _ c.read_line.new.line c.in_ok-found.ensures.ok (c.body_lines-count.ensures ∙ ap lines_asked asks) in
    ServesAll-nothing _ _ _ _ _ _ _ _ c.loop-found.invariant (rw c.in-Nothing.is at takes)
