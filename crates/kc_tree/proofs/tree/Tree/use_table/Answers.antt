use Rattle.std.proofs.Common.{subst}
use Rattle.kc_tree.specs.CellLaws.{CellLaws, IsCellTable}
use Rattle.kc_tree.proofs.CellTables.{cell_laws, cell_table}
use Rattle.kc_tree.proofs.tree.Tree.use_table.Goals as goal

pub returns-clause-table : goal.returns-clause-table
returns-clause-table c = subst (λ t. IsCellTable t c.self.inside.uses) c.self.view_is (cell_table c.self.inside.outline c.self.inside.uses c.self.invariant.uses)

pub returns-clause-laws : goal.returns-clause-laws
returns-clause-laws c =
    let known = c.self.invariant in
    subst CellLaws c.self.view_is (cell_laws c.self.inside.outline c.self.inside.uses known.uses known.accepted.nested c.self.inside.order.items known.order)
