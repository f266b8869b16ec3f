use Rattle.std.proofs.Common.{◌≡◌, ◌≤◌, filter, length, map}
use Rattle.kc_tree.specs.Nodes.{node_in}
use Rattle.kc_tree.specs.WholeRows.{is_node}
use Rattle.kc_tree.proofs.node_order.NodeOrderIterator.next.Given as goal

-- the nodes that are left are those that were
abbrev pub invariant-loop-first : goal.invariant-loop-first
invariant-loop-first l = record {
  same : map (node_in l.self-inside.symbols) (filter (is_node l.self-inside.nodes) l.self-inside.left.now) ≡ l.fn.self;
  few : l.self-inside.symbols ≤ 65535;
}

abbrev pub decreases-loop-first : goal.decreases-loop-first
decreases-loop-first l = length l.self-inside.left.now
