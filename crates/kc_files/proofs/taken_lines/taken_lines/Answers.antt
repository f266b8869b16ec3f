use Rattle.std.proofs.Common.{◌∙◌, ap, get_or, length}
use Rattle.std.proofs.lemmas.Option.{slice_get-get_or}
use Rattle.kc_files.specs.declared.outcomes.Outcome.TheVariants as outcome
use Rattle.kc_files.specs.LineFacts.{noted, taker_in}
use Rattle.kc_files.proofs.LineFactLaws.{noted_sized, noted_step}
use Rattle.kc_files.proofs.taken_lines.taken_lines.Goals as goal

pub loop-index-preserved : goal.loop-index-preserved
loop-index-preserved c =
    let i = c.loop-index.index in
    let os = c.args.outcomes.now in
    let before = c.loop-index.last.items in
    let new = c.note.ensures ∙ ap (λ number. noted before number i) c.taker_in.ensures in
    let is = slice_get-get_or os i outcome.Got c.loop-index-test.true in
    record {
      sized = ap length c.note.ensures ∙ noted_sized before c.taker_in.result i ∙ c.loop-index.invariant.sized;
      each = noted_step (taker_in c.args.lines.now c.args.common) os i (get_or os i outcome.Got) before c.note.new.last.items (length c.args.outcomes.now) is c.loop-index.invariant.sized c.loop-index.invariant.each new;
    }
