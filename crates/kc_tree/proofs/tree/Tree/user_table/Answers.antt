use Rattle.std.proofs.Common.{subst}
use Rattle.kc_tree.specs.CellLaws.{CellLaws, IsReaderTable}
use Rattle.kc_tree.proofs.CellTables.{cell_laws, reader_table}
use Rattle.kc_tree.proofs.tree.Tree.user_table.Goals as goal

pub returns-clause-table : goal.returns-clause-table
returns-clause-table c =
    let known = c.self.invariant in
    subst (λ t. IsReaderTable t c.self.inside.used_by) c.self.view_is (reader_table c.self.inside.outline c.self.inside.uses known.uses c.self.inside.used_by known.used_by)

pub returns-clause-laws : goal.returns-clause-laws
returns-clause-laws c =
    let known = c.self.invariant in
    subst CellLaws c.self.view_is (cell_laws c.self.inside.outline c.self.inside.uses known.uses known.accepted.nested c.self.inside.order.items known.order)
