use Rattle.std.proofs.Common.{take, flat_map}
use Rattle.kc_tree.specs.Cells.{prompt_cells}
use Rattle.kc_tree.specs.CellRows.{AddsCells}
use Rattle.kc_tree.proofs.uses.reader.Reader.add_prompts.Given as goal

-- the row has what those so far read
abbrev pub invariant-loop-number : goal.invariant-loop-number
invariant-loop-number l = AddsCells l.self.outline.now l.initial.row.items l.row.items (flat_map (prompt_cells l.self.outline.now) (take l.number-index l.definitions))
