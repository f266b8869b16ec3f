use Rattle.std.proofs.Common.{ℕ, List, subst, sym}
use Rattle.kc_tree.specs.CellLaws.{CellLaws, IsCellOrder}
use Rattle.kc_tree.proofs.CellTables.{cell_laws, cell_order}
use Rattle.kc_tree.proofs.tree.Tree.cell_order.Goals as goal

pub returns-clause-order : goal.returns-clause-order
returns-clause-order c =
    let o = c.self.inside.outline in
    let known = c.self.invariant in
    subst (λ t. IsCellOrder t c.as_slice.result.now) c.self.view_is
    (subst (λ (ks : List ℕ). IsCellOrder o ks) (sym c.as_slice.ensures.value) (cell_order o c.self.inside.uses known.uses c.self.inside.order.items known.order))

pub returns-clause-laws : goal.returns-clause-laws
returns-clause-laws c =
    let known = c.self.invariant in
    subst CellLaws c.self.view_is (cell_laws c.self.inside.outline c.self.inside.uses known.uses known.accepted.nested c.self.inside.order.items known.order)
