use Rattle.std.proofs.Common.{length, take, flat_map}
use Rattle.kc_tree.specs.CellRows.{Adds}
use Rattle.kc_tree.specs.Cells.{default_alone_nodes}
use Rattle.kc_tree.proofs.uses.reader.Reader.add_defaults.Given as goal

-- the row has what those so far read
abbrev pub invariant-loop-default : goal.invariant-loop-default
invariant-loop-default l = Adds (length l.self.outline.now.symbols) l.initial.row.items l.row.items (flat_map (default_alone_nodes l.self.outline.now) (take l.default-index l.defaults))
