use Rattle.std.proofs.Common.{length, take, flat_map}
use Rattle.kc_tree.specs.Uses.{visibility_node}
use Rattle.kc_tree.specs.CellRows.{Adds}
use Rattle.kc_tree.proofs.uses.reader.Reader.add_visibilities.Given as goal

-- the row has what those so far read
abbrev pub invariant-loop-symbol : goal.invariant-loop-symbol
invariant-loop-symbol l = Adds (length l.self.outline.now.symbols) l.initial.row.items l.row.items (flat_map (visibility_node l.self.outline.now) (take l.symbol-index l.symbols))
