use Rattle.std.proofs.Common.{length, take, flat_map}
use Rattle.kc_tree.specs.CellRows.{Adds}
use Rattle.kc_tree.specs.Cells.{range_alone_nodes}
use Rattle.kc_tree.proofs.uses.reader.Reader.add_ranges.Given as goal

-- the row has what those so far read
abbrev pub invariant-loop-range : goal.invariant-loop-range
invariant-loop-range l = Adds (length l.self.outline.now.symbols) l.initial.row.items l.row.items (flat_map (range_alone_nodes l.self.outline.now) (take l.range-index l.ranges))
