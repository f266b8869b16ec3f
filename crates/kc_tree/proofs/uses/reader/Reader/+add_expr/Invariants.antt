use Rattle.std.proofs.Common.{length, take, flat_map}
use Rattle.kc_tree.specs.Uses.{value_nodes}
use Rattle.kc_tree.specs.CellRows.{Adds}
use Rattle.kc_tree.proofs.uses.reader.Reader.+add_expr.Given as goal

-- the row has what those so far read
abbrev pub invariant-add_conditions-loop-condition : goal.invariant-add_conditions-loop-condition
invariant-add_conditions-loop-condition l = Adds (length l.self.outline.now.symbols) l.initial.row.items l.row.items (flat_map (value_nodes l.self.outline.now) (take l.condition-index l.conditions))
