use Rattle.std.proofs.Common.{◌≡◌, Some, ap, sym, ◌∙◌, rules}
use Rattle.std.specs.List.{slice_get}
use Rattle.std.specs.Option.{option_copied}
use Rattle.kc_value.specs.Known.{given}
use Rattle.kc_value.proofs.BlockLemmas.{visible_here}
use Rattle.kc_value.proofs.conditions.block_visible.Goals as goal

pub returns : goal.returns
returns c =
    let t = c.args.known.now.tree in
    let at : slice_get t.blocks c.args.id.0 ≡ Some c.in-Some.block.now = sym c.block.ensures.block ∙ ap (λ o. option_copied o) c.in-Some.is in
    let here = visible_here t (given c.args.known.now) c.args.id c.in-Some.block.now c.block.ensures.accepted.nested at in
    search (rules, here)
