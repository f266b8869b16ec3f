use Rattle.std.proofs.Common.{◌≡◌, ◌∙◌, ◌∷◌, ◌<◌, [], not, IsCharBoundary, length, take, drop, slice_index, ap, subst, sym, arith, rules, drop-drop}
use Rattle.std.specs.List.{position_or_len}
use Rattle.std.specs.Str.Lines.{lines, strip_carriage_return}
use Rattle.std.proofs.lemmas.List.Sums.{prefix_len-le-length}
use Rattle.kc_text.specs.Bytes.{is_feed}
use Rattle.kc_text.proofs.Lexing.{first_is}
use Rattle.kc_text.proofs.Runs.{boundary_before_stop}
use Rattle.kc_text.proofs.PhysicalLines.{lines-cut, lines-empty, lines-one, feed_is_ascii, stops_at_feed}
use Rattle.kc_text.proofs.items.first_line.Goals as goal

pub returns-in-10-clause-lines : goal.returns-in-10-clause-lines
returns-in-10-clause-lines c =
    let text = c.args.text.now in
    let feed : slice_index text 0 ≡ 10 = search rules in
    ap lines (first_is text 10 c.requires.some feed) ∙ lines-empty (drop 1 text) ∙ ap (λ bs. [] ∷ lines bs) (sym c.text_after.ensures)

pub returns-then-len-text-clause-lines : goal.returns-then-len-text-clause-lines
returns-then-len-text-clause-lines c =
    lines-one c.args.text.now (sym c.line_len-len.ensures ∙ c.if-len-text.true) c.requires.some

pub split_at-requires : goal.split_at-requires
split_at-requires c =
    let text = c.args.text.now in
    subst (IsCharBoundary text) (sym c.line_len-len.ensures) (boundary_before_stop (λ b. not (is_feed b)) feed_is_ascii text)

pub text_after-requires-2-clause-ascii : goal.text_after-requires-2-clause-ascii
text_after-requires-2-clause-ascii c =
    let text = c.args.text.now in
    let len = c.line_len-len.ensures in
    let inside : position_or_len is_feed text < length text = omega (arith, len, c.if-len-text.false, prefix_len-le-length (λ b. not (is_feed b)) text) in
    let back = c.split_at.ensures.back ∙ ap (λ n. drop n text) len in
    subst (λ bs. slice_index bs 0 < 128) (sym back) (stops_at_feed text inside)

pub returns-clause-lines : goal.returns-clause-lines
returns-clause-lines c =
    let text = c.args.text.now in
    let len = c.line_len-len.ensures in
    let inside : position_or_len is_feed text < length text = omega (arith, len, c.if-len-text.false, prefix_len-le-length (λ b. not (is_feed b)) text) in
    let line = c.before_return.ensures ∙ ap strip_carriage_return (c.split_at.ensures.front ∙ ap (λ n. take n text) len) in
    let rest = c.text_after-2.ensures ∙ ap (drop 1) (c.split_at.ensures.back ∙ ap (λ n. drop n text) len) ∙ drop-drop 1 (position_or_len is_feed text) text in
    lines-cut text inside ∙ (λ i. sym line i ∷ lines (sym rest i))
