use Rattle.std.proofs.Common.{subst, rules}
use Rattle.std.specs.List.{prefix_len}
use Rattle.kc_text.specs.Bytes.{is_blank}
use Rattle.kc_text.specs.Stopping.{IsPassed}
use Rattle.kc_text.proofs.StopLaws.{read_to_begin, read_to_end, read_to_more, read_to_stop}
use Rattle.kc_text.proofs.stops.stop_in.Goals as goal

pub loop-passed-init : goal.loop-passed-init
loop-passed-init c =
    let begun = c.behind_blanks-rest in
    let line = c.args.line.now in
    record { utf8 = search rules; first = begun.ensures.first; read = read_to_begin line begun.result.now (prefix_len is_blank line) begun.ensures.value begun.ensures.same }

pub loop-passed-preserved : goal.loop-passed-preserved
loop-passed-preserved c =
    let next = c.behind_blanks-rest-in-Read in
    let rest = c.loop-passed.rest.now in
    let after = c.in-Read.after.now in
    let passes = subst (IsPassed rest) c.in-Read.is c.in-Some.ensures.passes in
    record {
      utf8 = search rules;
      first = next.ensures.first;
      read = read_to_more c.args.line.now rest after next.result.now (prefix_len is_blank after) c.loop-passed.invariant.read passes next.ensures.value next.ensures.same;
    }

pub returns-in-Stopped-clause-stops : goal.returns-in-Stopped-clause-stops
returns-in-Stopped-clause-stops c =
    let rest = c.loop-passed.rest.now in
    read_to_stop c.args.line.now rest c.in-Stopped.stop c.loop-passed.invariant.read (subst (IsPassed rest) c.in-Stopped.is c.in-Some.ensures.passes)

pub returns-clause-none : goal.returns-clause-none
returns-clause-none c = read_to_end c.args.line.now c.loop-passed.rest.now c.loop-passed.invariant.read c.in_default.ensures.none
