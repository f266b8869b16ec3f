use Rattle.std.proofs.Common.{sym, ◌∙◌, rules}
use Rattle.kc_text.proofs.StopLaws.{value_to_more, value_to_stop}
use Rattle.kc_text.proofs.stops.stop_in_value.Goals as goal

pub returns-then-is_malformed-clause-stops : goal.returns-then-is_malformed-clause-stops
returns-then-is_malformed-clause-stops c =
    let bad = sym c.is_malformed.ensures ∙ c.if-is_malformed.true in
    value_to_stop c.args.value.now c.loop-piece.rest.now c.in-Some.after.now c.in-Some.piece c.loop-piece.invariant.read bad c.in-Some.ensures.leaves

pub loop-piece-preserved : goal.loop-piece-preserved
loop-piece-preserved c =
    let sound = sym c.is_malformed.ensures ∙ c.if-is_malformed.false in
    record {
      utf8 = search rules;
      read = value_to_more c.args.value.now c.loop-piece.rest.now c.in-Some.after.now c.in-Some.piece c.loop-piece.invariant.read sound c.in-Some.ensures.leaves c.in-Some.ensures.begins;
    }
