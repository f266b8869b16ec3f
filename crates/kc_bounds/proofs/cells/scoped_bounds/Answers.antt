use Rattle.std.proofs.Common.{◌<◌, get_or, sym, subst}
use Rattle.std.proofs.lemmas.List.Elements.{Contains-get_or}
use Rattle.kc_tree.specs.Cells.{cell_count}
use Rattle.kc_bounds.proofs.cells.scoped_bounds.Goals as goal

pub refine-requires : goal.refine-requires
refine-requires c =
    let order = c.cell_order-number-items.result.now in
    let i = c.loop-number.number-index in
    let within = c.cell_order-number-items.ensures.order.within (get_or order i 0) (Contains-get_or order i 0 c.loop-number-test.true) in
    subst (λ t. get_or order i 0 < cell_count t) (sym c.loop-number.invariant.0) within
