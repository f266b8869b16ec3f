use Rattle.std.proofs.Common.{◌==◌, ◌∙◌, ap, reverse}
use Rattle.std.specs.List.{list_any}
use Rattle.std.proofs.lemmas.List.Sorted.{list_any-IsPermutation, IsPermutation-reverse}
use Rattle.kc_outline.specs.declared.context.OpenBlock.{OpenBlock}
use Rattle.kc_outline.proofs.context.OpenBlocks.has_run.Goals as goal

pub returns : goal.returns
returns c =
    let blocks = c.self.inside.blocks.items in
    let has = λ (b : OpenBlock). b.run == c.args.run in
    c.is_run_among.ensures ∙ ap (list_any has) c.as_slice.ensures.value
    ∙ list_any-IsPermutation has blocks (reverse blocks) (IsPermutation-reverse blocks)
    ∙ ap (list_any has) c.self.view_is
