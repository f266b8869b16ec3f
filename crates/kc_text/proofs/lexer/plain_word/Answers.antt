use Rattle.std.proofs.Common.{◌≡◌, false, [], take, drop, IsCharBoundary, subst, sym, ap, ◌∙◌}
use Rattle.kc_text.specs.Bytes.{begins_with, is_word}
use Rattle.kc_text.specs.Lexing.{begins_word, in_word, lexed}
use Rattle.kc_text.specs.Scanning.{bytes_of}
use Rattle.kc_text.proofs.Cuts.{boundary_after_run, word_is_ascii}
use Rattle.kc_text.proofs.Lexing.{lexed-word_run, word_begins, word_ends, word_run_ends}
use Rattle.kc_text.proofs.lexer.plain_word.Goals as goal

pub split_at-requires : goal.split_at-requires
split_at-requires c =
    let text = c.args.text.now in
    subst (IsCharBoundary text) (sym c.word_len.ensures.count) (boundary_after_run is_word word_is_ascii text c.utf8.text)

pub returns-clause-lexes : goal.returns-clause-lexes
returns-clause-lexes c =
    let text = c.args.text.now in
    let front = c.split_at.ensures.front ∙ ap (λ n. take n text) c.word_len.ensures.count in
    let back = c.split_at.ensures.back ∙ ap (λ n. drop n text) c.word_len.ensures.count in
    let stops : begins_word c.split_at.result.1.now ≡ false =
    ap begins_word back ∙ word_run_ends text (ap (begins_with 36) (sym back) ∙ sym c.begins_dollar.ensures ∙ c.if-begins_dollar.false) in
    word_begins text c.requires.begins ∙ lexed-word_run [] text ∙ (λ i. lexed 0 (in_word (bytes_of (sym front i))) (sym back i))
    ∙ word_ends (bytes_of c.split_at.result.0.now) c.split_at.result.1.now stops
