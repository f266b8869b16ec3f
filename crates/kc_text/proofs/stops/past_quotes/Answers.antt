use Rattle.std.proofs.Common.{◌<◌, eqb-true, length, drop, sym, ◌∙◌, arith, rules}
use Rattle.std.proofs.lemmas.Bool.{eqb-false}
use Rattle.kc_text.specs.Lexing.{in_quotes}
use Rattle.kc_text.proofs.StopLaws.{bad_dollar_of, end_of, ends_behind, ends_through, so_far_begin, so_far_more, quotes_stop, quotes_open, quotes_pass}
use Rattle.kc_text.proofs.stops.past_quotes.Goals as goal

pub loop-piece-init : goal.loop-piece-init
loop-piece-init c = record {
  utf8 = search rules;
  found = so_far_begin (in_quotes c.args.quote) (drop 1 c.args.quoted.now) c.text_after-rest.result.now c.text_after-rest.ensures;
  ends = ends_behind 1 c.args.quoted.now c.text_after-rest.result.now c.text_after-rest.ensures;
}

pub returns-then-is_malformed : goal.returns-then-is_malformed
returns-then-is_malformed c =
    let rest = c.loop-piece.rest.now in
    let bad = sym c.is_malformed.ensures ∙ c.if-is_malformed.true in
    quotes_stop c.args.quote c.args.quoted.now rest c.requires.kind c.requires.some c.requires.begins c.loop-piece.invariant.found c.loop-piece.invariant.ends
    (bad_dollar_of c.in-Some.piece rest c.in-Some.after.now c.in-Some.ensures.leaves bad)

pub loop-piece-preserved : goal.loop-piece-preserved
loop-piece-preserved c =
    let text = c.args.quoted.now in
    let rest = c.loop-piece.rest.now in
    let after = c.in-Some.after.now in
    let sound = sym c.is_malformed.ensures ∙ c.if-is_malformed.false in
    record {
      utf8 = search rules;
      found = so_far_more (in_quotes c.args.quote) (drop 1 text) rest after c.in-Some.piece c.loop-piece.invariant.found sound c.in-Some.ensures.lexes;
      ends = ends_through text rest after c.loop-piece.invariant.ends (end_of c.in-Some.piece rest after c.in-Some.ensures.leaves sound);
    }

pub returns-then-is_empty : goal.returns-then-is_empty
returns-then-is_empty c =
    quotes_open c.args.quote c.args.quoted.now c.loop-piece.rest.now c.requires.kind c.requires.some c.requires.begins c.loop-piece.invariant.found c.loop-piece.invariant.ends
    (eqb-true _ 0 (sym c.is_empty.ensures ∙ c.if-is_empty.true))

pub returns : goal.returns
returns c =
    let rest = c.loop-piece.rest.now in
    let some : 0 < length rest = omega (arith, eqb-false _ 0 (sym c.is_empty.ensures ∙ c.if-is_empty.false)) in
    quotes_pass c.args.quote c.args.quoted.now rest c.requires.kind c.requires.some c.requires.begins c.loop-piece.invariant.found c.loop-piece.invariant.ends
    c.text_after.result.now c.text_after.ensures some (c.in_default.ensures.none some)
