use Rattle.std.proofs.Common.{◌≡◌, ◌≤◌, ◌++◌, length, map}
use Rattle.kc_tree.specs.Nodes.{node_in}
use Rattle.kc_tree.specs.CellRows.{AreChains, AreInside}
use Rattle.kc_tree.specs.WholeRows.{whole_row}
use Rattle.kc_tree.proofs.node_rows.NodeRowIterator.next.Given as goal

-- the nodes that are left are those that were
abbrev pub invariant-loop-number : goal.invariant-loop-number
invariant-loop-number l = record {
  same : map (node_in l.self-inside.symbols) (l.self-inside.chain ++ whole_row l.self-inside.nodes l.self-inside.rows.now l.self-inside.left.now) ≡ l.fn.self;
  few : l.self-inside.symbols ≤ 65535;
  chains : AreChains l.self-inside.nodes l.self-inside.rows.now;
  inside : AreInside l.self-inside.rows.now l.self-inside.left.now;
}

abbrev pub decreases-loop-number : goal.decreases-loop-number
decreases-loop-number l = length l.self-inside.left.now
