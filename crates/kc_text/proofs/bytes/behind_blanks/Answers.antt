use Rattle.std.proofs.Common.{◌≡◌, false, ◌<◌, ◌∙◌, length, drop, slice_index, IsCharBoundary, ap, subst, sym}
use Rattle.kc_text.specs.Bytes.{behind_blanks, is_blank}
use Rattle.kc_text.specs.Lexing.{raw_tokens}
use Rattle.kc_text.proofs.Cuts.{boundary_after_run, blank_is_ascii}
use Rattle.kc_text.proofs.Lexing.{raw_tokens-blanks}
use Rattle.kc_text.proofs.Runs.{first_past_run}
use Rattle.kc_text.proofs.bytes.behind_blanks.Goals as goal

pub range_from-requires : goal.range_from-requires
range_from-requires c = λ _.
    let text = c.args.text.now in
    subst (IsCharBoundary text) (sym c.blank_len.ensures.count) (boundary_after_run is_blank blank_is_ascii text c.utf8.text)

pub returns-clause-same : goal.returns-clause-same
returns-clause-same c =
    let text = c.args.text.now in
    let value : c.range_from.result.now ≡ behind_blanks text = c.range_from.ensures.value ∙ ap (λ n. drop n text) c.blank_len.ensures.count in
    ap raw_tokens value ∙ raw_tokens-blanks text

pub returns-clause-first : goal.returns-clause-first
returns-clause-first c =
    let text = c.args.text.now in
    let value : c.range_from.result.now ≡ behind_blanks text = c.range_from.ensures.value ∙ ap (λ n. drop n text) c.blank_len.ensures.count in
    subst (λ bs. 0 < length bs → is_blank (slice_index bs 0) ≡ false) (sym value) (first_past_run is_blank text)
