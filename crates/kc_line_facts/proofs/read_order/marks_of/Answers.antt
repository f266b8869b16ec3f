use Rattle.std.proofs.Common.{◌∙◌, Some, ap, length, map, sym}
use denote.Ref.{Bor}
use Rattle.std.proofs.lemmas.List.{length-map}
use Rattle.std.proofs.lemmas.Option.{slice_get-get_or}
use Rattle.kc_text.specs.LineValue.{LineValue}
use Rattle.kc_line_facts.proofs.OrderLaws.{files_more}
use Rattle.kc_line_facts.proofs.SourcedLaws.{first_run_lent}
use Rattle.kc_line_facts.proofs.read_order.marks_of.Goals as goal

pub loop-number-preserved : goal.loop-number-preserved
loop-number-preserved c =
    let lines = c.args.lines.now in
    let files = c.args.files.now in
    let n = c.loop-number.number in
    let file = c.index-files-number.result in
    let ends = c.in_ok-ends.ends.items in
    let count_is = sym c.as_slice-in-loop-number.ensures.len ∙ ap length c.as_slice-in-loop-number.ensures.value ∙ sym (length-map ends (λ (e : Bor LineValue). e.now)) ∙ ap length c.in_ok-ends.ensures in
    let run_is = c.first_run_of-run.ensures
    ∙ first_run_lent lines c.as_slice-in-loop-number.result.now file.path.now (ap (map (λ (e : Bor LineValue). e.now)) c.as_slice-in-loop-number.ensures.value ∙ c.in_ok-ends.ensures) in
    files_more lines files n c.len.result c.len-2.result file c.as_slice.result.now c.as_slice-2.result.now c.first_run_of-run.result
    c.loop-number.marks.items c.push_if_read.new.reached.items (slice_get-get_or files n file c.loop-number-test.true ∙ ap Some (sym c.index-files-number.is))
    (c.len.ensures ∙ count_is) (c.len-2.ensures ∙ count_is) (c.as_slice.ensures.value ∙ c.in_ok-starts.ensures.starts) (c.as_slice-2.ensures.value ∙ c.in_ok-rests.ensures.rests)
    run_is c.in_ok-push_if_read.ensures c.loop-number.invariant
