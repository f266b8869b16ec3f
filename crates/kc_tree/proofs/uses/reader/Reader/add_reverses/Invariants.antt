use Rattle.std.proofs.Common.{take, flat_map}
use Rattle.kc_tree.specs.Cells.{reverse_cells}
use Rattle.kc_tree.specs.CellRows.{AddsCells}
use Rattle.kc_tree.proofs.uses.reader.Reader.add_reverses.Given as goal

-- the row has what those so far read
abbrev pub invariant-loop-reverse : goal.invariant-loop-reverse
invariant-loop-reverse l = AddsCells l.self.outline.now l.initial.row.items l.row.items (flat_map (reverse_cells l.self.outline.now) (take l.reverse-index l.reverses))
