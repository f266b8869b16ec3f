use Rattle.kc_tree.specs.CellRows.{AreRowsTo}
use Rattle.kc_tree.proofs.uses.used_rows.Given as goal

-- the rows are those of the cells so far
abbrev pub invariant-loop-number : goal.invariant-loop-number
invariant-loop-number l = AreRowsTo l.outline l.number l.rows
