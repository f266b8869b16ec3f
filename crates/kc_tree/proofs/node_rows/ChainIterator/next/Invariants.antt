use Rattle.std.proofs.Common.{◌≡◌, length}
use Rattle.kc_tree.specs.CellRows.{AreChains, AreInside, IsChain}
use Rattle.kc_tree.specs.WholeRows.{trails, whole_row}
use Rattle.kc_tree.proofs.node_rows.ChainIterator.next.Given as goal

-- the nodes that are left are those that were
abbrev pub invariant-loop-first : goal.invariant-loop-first
invariant-loop-first l = record {
  same : whole_row l.self-inside.nodes l.self-inside.rows.now l.self-inside.left.now ≡ l.fn.self;
  chains : AreChains l.self-inside.nodes l.self-inside.rows.now;
  chain : IsChain l.self-inside.nodes l.self-inside.left.now;
  inside : AreInside l.self-inside.rows.now l.self-inside.left.now;
}

abbrev pub decreases-loop-first : goal.decreases-loop-first
decreases-loop-first l = length (trails l.self-inside.nodes l.self-inside.rows.now l.self-inside.left.now)
