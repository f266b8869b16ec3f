use Rattle.std.proofs.Common.{◌∙◌, ◌++◌, ap, sym, subst, take}
use Rattle.std.specs.Prelude.{All}
use Rattle.kc_files.specs.Outcomes.{fragment_lines, placed, IsPlacedFor}
use Rattle.kc_files.proofs.FragmentLaws.{fragments_step, lines_fit}
use Rattle.kc_files.proofs.fragments.read_fragments.Goals as goal

pub loop-index-preserved : goal.loop-index-preserved
loop-index-preserved c =
    let t = c.args.tree.now in
    let prefix = c.args.prefix.now in
    let fragments = c.args.fragments.now in
    let i = c.loop-index.index in
    let before = c.loop-index.invariant in
    let read = c.in_ok-read.read.items in
    record {
      read = c.in_ok-add_lines.ensures
          ∙ ap (λ lines. lines ++ placed i read) before.read
          ∙ ap (λ lines. fragment_lines t prefix (take i fragments) ++ placed i lines) c.in_ok-read.ensures.lines
          ∙ sym (fragments_step t prefix fragments i _ c.loop-index-test.true);
      fitting = subst (All (IsPlacedFor t)) (sym c.in_ok-add_lines.ensures) (lines_fit t i c.loop-index.lines.items read before.fitting c.in_ok-read.ensures.fitting);
    }
