use Rattle.std.proofs.Common.{sym, ◌∙◌, rules}
use Rattle.kc_text.specs.Lexing.{in_word}
use Rattle.kc_text.proofs.StopLaws.{bad_dollar_of, end_of, ends_through, so_far_more, word_passes, word_stops}
use Rattle.kc_text.proofs.stops.past_word.Goals as goal

pub returns-then-is_malformed : goal.returns-then-is_malformed
returns-then-is_malformed c =
    let rest = c.loop-piece.rest.now in
    let bad = sym c.is_malformed.ensures ∙ c.if-is_malformed.true in
    word_stops c.args.text.now rest c.requires.begins c.loop-piece.invariant.found c.loop-piece.invariant.ends
    (bad_dollar_of c.in-Some.piece rest c.in-Some.after.now c.in-Some.ensures.leaves bad)

pub loop-piece-preserved : goal.loop-piece-preserved
loop-piece-preserved c =
    let text = c.args.text.now in
    let rest = c.loop-piece.rest.now in
    let after = c.in-Some.after.now in
    let sound = sym c.is_malformed.ensures ∙ c.if-is_malformed.false in
    record {
      utf8 = search rules;
      found = so_far_more in_word text rest after c.in-Some.piece c.loop-piece.invariant.found sound c.in-Some.ensures.lexes;
      ends = ends_through text rest after c.loop-piece.invariant.ends (end_of c.in-Some.piece rest after c.in-Some.ensures.leaves sound);
    }

pub returns : goal.returns
returns c = word_passes c.args.text.now _ c.requires.begins c.loop-piece.invariant.found c.loop-piece.invariant.ends c.in_default.ensures.none
