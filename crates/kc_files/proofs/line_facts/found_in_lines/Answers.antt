use Rattle.std.proofs.Common.{◌∙◌, ◌++◌, None, ap, get_or, sym}
use Rattle.std.proofs.lemmas.Option.{slice_get-get_or}
use Rattle.kc_files.specs.declared.outcomes.Outcome.TheVariants as outcome
use Rattle.kc_files.specs.LineFacts.{found_of_line}
use Rattle.kc_files.proofs.LineFactLaws.{found_step}
use Rattle.kc_files.proofs.line_facts.found_in_lines.Goals as goal

pub loop-line-preserved : goal.loop-line-preserved
loop-line-preserved c =
    let i = c.loop-line.line in
    let os = c.args.outcomes.now in
    let o = get_or os i outcome.Got in
    let inside = c.loop-line-test.true in
    let before = c.noted_at-before.result in
    let member = c.noted_at-member.result in
    let before_is = c.noted_at-before.ensures ∙ ap (λ last. get_or last i None) c.as_slice.ensures.value ∙ c.in_ok-same.ensures i inside in
    let member_is = c.noted_at-member.ensures ∙ ap (λ last. get_or last i None) c.as_slice-in-loop-line.ensures.value ∙ c.in_ok-members.ensures i inside in
    let step = found_step c.args.lines.now os i o before member (slice_get-get_or os i outcome.Got inside) before_is member_is in
    c.in_ok-add_line.ensures ∙ ap (λ found. found ++ found_of_line i before member o) c.loop-line.invariant ∙ sym step
