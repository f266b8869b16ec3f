use Rattle.std.proofs.Common.{◌≡◌, ◌∙◌, ◌<◌, length, take, get_or, sym, subst, arith}
use Rattle.std.proofs.lemmas.Bool.{eqb-true}
use Rattle.std.proofs.lemmas.List.{length-take, get_or-take}
use Rattle.memchr.specs.Find.{IsLastByte, is_byte}
use Rattle.kc_session.proofs.FirstLines.{first_fit}
use Rattle.kc_session.proofs.body.first_lines.Goals as goal

pub slice_bounds-memrchr-end : goal.slice_bounds-memrchr-end
slice_bounds-memrchr-end c = omega (arith, c.requires.long, length-take 65_536 c.args.text.now)

pub overflow_add-last : goal.overflow_add-last
overflow_add-last c =
    let found = subst (IsLastByte (is_byte 10) (take 65_536 c.args.text.now)) c.in-Some.is c.memrchr.ensures in
    omega (arith, found.0.high, length-take 65_536 c.args.text.now)

pub split_at-requires : goal.split_at-requires
split_at-requires c =
    let found = subst (IsLastByte (is_byte 10) (take 65_536 c.args.text.now)) c.in-Some.is c.memrchr.ensures in
    omega (arith, found.0.high, length-take 65_536 c.args.text.now)

pub returns-in-Some-clause-fit : goal.returns-in-Some-clause-fit
returns-in-Some-clause-fit c =
    let text = c.args.text.now in
    let last = c.in-Some.last in
    let found = subst (IsLastByte (is_byte 10) (take 65_536 text)) c.in-Some.is c.memrchr.ensures in
    let within : last < 65_536 = omega (arith, found.0.high, length-take 65_536 text) in
    let inside : last < length text = omega (arith, found.0.high, length-take 65_536 text) in
    let feed : get_or text last 0 ≡ 10 = sym (get_or-take 65_536 text last 0 within) ∙ eqb-true _ 10 found.1 in
    first_fit text c.split_at.result.0.now c.split_at.result.1.now last within inside feed c.split_at.ensures.front c.split_at.ensures.back
