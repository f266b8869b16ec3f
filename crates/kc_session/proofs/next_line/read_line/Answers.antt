use Rattle.std.proofs.Common.{◌≡◌, ◌<◌, ◌≤◌, ◌+◌, ◌++◌, length, take, sym, ap, ◌∙◌, arith}
use Rattle.std.specs.Io.KnownBytes.{prepend_known}
use Rattle.std.specs.List.{position_or_len}
use Rattle.std.proofs.lemmas.Bool.{eqb-true, eqb-false}
use Rattle.std.proofs.lemmas.List.{take_all}
use Rattle.kc_files.specs.ConfigLines.{is_feed}
use Rattle.kc_session.proofs.BodyLines.{before_feed, no_feed, up_to_feed}
use Rattle.kc_session.proofs.Taking.{HasTaken-more, TakesEndedLine-part, TakesLastLine-taken, TakesNothing-taken, spends-some}
use Rattle.kc_session.proofs.next_line.read_line.Goals as goal

pub returns-then-len-unread-clause-ok : goal.returns-then-len-unread-clause-ok
returns-then-len-unread-clause-ok g c =
    let unread = c.unread-unread.result.now in
    let len = c.line_len-len.result in
    let front = take (len + 1) unread in
    let cut : c.fill.new.self.bytes ≡ front ++ c.take.new.self.bytes = c.take.ensures.taken ∙ ap (λ bytes. take (len + 1) bytes ++ c.take.new.self.bytes) (sym c.unread-unread.ensures) in
    TakesEndedLine-part (prepend_known c.args.input.now.bytes (g.R.Read.remaining c.args.reader.now)) (prepend_known c.loop-input.input.bytes (g.R.Read.remaining c.loop-input.reader)) (g.R.Read.remaining c.fill.new.reader)
    c.loop-input.line c.push.new.self c.fill.new.self.bytes front c.take.new.self.bytes (take (position_or_len is_feed unread) unread) _ _
    c.loop-input.invariant c.fill.ensures.kept cut c.push.ensures (up_to_feed unread len c.line_len-len.ensures.len (omega (arith, c.if-len-unread.true))) (before_feed unread)

pub loop-input-preserved : goal.loop-input-preserved
loop-input-preserved g c =
    let unread = c.unread-unread.result.now in
    let len = c.line_len-len.result in
    let behind = c.take-in-loop-input.new.self.bytes in
    let all : length unread ≤ len = omega (arith, c.if-len-unread.false) in
    let whole : take len c.fill.new.self.bytes ≡ unread = ap (take len) (sym c.unread-unread.ensures) ∙ take_all len unread all in
    let cut : c.fill.new.self.bytes ≡ unread ++ behind = c.take-in-loop-input.ensures.taken ∙ ap (λ bytes. bytes ++ behind) whole in
    HasTaken-more (prepend_known c.args.input.now.bytes (g.R.Read.remaining c.args.reader.now)) (prepend_known c.loop-input.input.bytes (g.R.Read.remaining c.loop-input.reader)) (g.R.Read.remaining c.fill.new.reader)
    c.loop-input.line c.push-in-loop-input.new.self c.fill.new.self.bytes unread behind _ _ c.fill.new.self.budget _
    c.loop-input.invariant c.fill.ensures.kept cut c.push-in-loop-input.ensures (no_feed unread (omega (arith, all, c.line_len-len.ensures.len))) c.fill.ensures.budget
    (omega (arith, all, c.line_len-len.ensures.within, c.take-in-loop-input.ensures.budget))

pub returns-then-is_empty-clause-ok : goal.returns-then-is_empty-clause-ok
returns-then-is_empty-clause-ok g c =
    TakesNothing-taken (prepend_known c.args.input.now.bytes (g.R.Read.remaining c.args.reader.now)) (prepend_known c.loop-input.input.bytes (g.R.Read.remaining c.loop-input.reader)) (prepend_known c.fill.new.self.bytes (g.R.Read.remaining c.fill.new.reader)) _ _ _ c.loop-input.invariant c.fill.ensures.kept (c.in_ok-fill.ensures.end c.if-branch.false) (eqb-true _ 0 (sym c.is_empty.ensures ∙ c.if-is_empty.true))

pub returns-else-is_empty-clause-ok : goal.returns-else-is_empty-clause-ok
returns-else-is_empty-clause-ok g c =
    let some : 0 < length c.loop-input.line.kept = omega (arith, eqb-false _ 0 (sym c.is_empty.ensures ∙ c.if-is_empty.false)) in
    TakesLastLine-taken (prepend_known c.args.input.now.bytes (g.R.Read.remaining c.args.reader.now)) (prepend_known c.loop-input.input.bytes (g.R.Read.remaining c.loop-input.reader)) (prepend_known c.fill.new.self.bytes (g.R.Read.remaining c.fill.new.reader)) _ _ _ c.loop-input.invariant c.fill.ensures.kept (c.in_ok-fill.ensures.end c.if-branch.false) some

pub returns-else-is_empty-clause-progress : goal.returns-else-is_empty-clause-progress
returns-else-is_empty-clause-progress g c = λ _.
    let some : 0 < length c.loop-input.line.kept = omega (arith, eqb-false _ 0 (sym c.is_empty.ensures ∙ c.if-is_empty.false)) in
    let spent = spends-some (prepend_known c.args.input.now.bytes (g.R.Read.remaining c.args.reader.now)) (prepend_known c.loop-input.input.bytes (g.R.Read.remaining c.loop-input.reader)) _ _ _ c.loop-input.invariant some in
    omega (arith, c.fill.ensures.budget, spent)
