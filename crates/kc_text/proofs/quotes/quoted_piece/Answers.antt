use Rattle.std.proofs.Common.{◌≡◌, ◌++◌, ◌∷◌, [], ◌<◌, length, take, drop, slice_index, IsCharBoundary, subst, sym, ap, ◌∙◌, rules}
use Rattle.kc_text.specs.Lexing.{is_plain, in_quotes, lexed}
use Rattle.kc_text.specs.References.{reference, reference_after_dollar, reference_len}
use Rattle.kc_text.specs.Scanning.{bytes_of}
use Rattle.kc_text.proofs.Lexing.{lexed-plain_run, lexed-quotes_reference, plain_stop_is_ascii, first_is}
use Rattle.kc_text.proofs.Runs.{boundary_before_stop}
use Rattle.kc_text.proofs.StopLaws.{ends_behind, ends_through}
use Rattle.kc_text.proofs.quotes.quoted_piece.Goals as goal

pub split_at-requires : goal.split_at-requires
split_at-requires c =
    let text = c.args.text.now in
    let quote = c.args.quote in
    subst (IsCharBoundary text) (sym c.plain_len-len.ensures.count) (boundary_before_stop (is_plain quote) (plain_stop_is_ascii quote c.requires.kind) text)

pub returns-then-len-gt0-clause-lexes : goal.returns-then-len-gt0-clause-lexes
returns-then-len-gt0-clause-lexes c = λ ps.
    let text = c.args.text.now in
    let front = c.split_at.ensures.front ∙ ap (λ n. take n text) c.plain_len-len.ensures.count in
    let back = c.split_at.ensures.back ∙ ap (λ n. drop n text) c.plain_len-len.ensures.count in
    lexed-plain_run c.args.quote ps text ∙ (λ i. lexed 0 (in_quotes c.args.quote (ps ++ bytes_of (sym front i))) (sym back i))

pub returns-in-Some-clause-lexes : goal.returns-in-Some-clause-lexes
returns-in-Some-clause-lexes c = λ ps.
    let text = c.args.text.now in
    let quote = c.args.quote in
    let name = c.in-Some.name.now in
    let some : 0 < length text = search rules in
    let dollar : slice_index text 0 ≡ 36 = search rules in
    let found = c.in-Some.ensures in
    let named = ap reference_after_dollar (sym c.text_after-in-36.ensures) ∙ found.finds.0 in
    let rest = found.finds.1 ∙ ap (drop (reference_len name)) c.text_after-in-36.ensures in
    ap (lexed 0 (in_quotes quote ps)) (first_is text 36 some dollar) ∙ lexed-quotes_reference quote ps (drop 1 text) name c.requires.kind named
    ∙ ap (lexed 0 (in_quotes quote (ps ++ reference name ∷ []))) (sym rest)

pub returns-then-len-gt0-clause-leaves : goal.returns-then-len-gt0-clause-leaves
returns-then-len-gt0-clause-leaves c = ends_behind c.plain_len-len.result c.args.text.now c.split_at.result.1.now c.split_at.ensures.back

pub returns-in-Some-clause-leaves : goal.returns-in-Some-clause-leaves
returns-in-Some-clause-leaves c =
    let text = c.args.text.now in
    let opened = c.text_after-in-36.result.now in
    let after = c.in-Some.after.now in
    ends_through text opened after (ends_behind 1 text opened c.text_after-in-36.ensures) (ends_behind (reference_len c.in-Some.name.now) opened after c.in-Some.ensures.finds.1)
