use Rattle.std.proofs.Common.{take}
use Rattle.std.specs.List.{Contains}
use Rattle.kc_tree.specs.declared.node.Node.{Node}
use Rattle.kc_value.specs.Kept.{AreKept, IsKept}
use Rattle.kc_value.proofs.fresh.kept_for.Given as goal

-- the nodes so far are kept
abbrev pub invariant-loop-node : goal.invariant-loop-node
invariant-loop-node l = record {
  right : AreKept l.tree l.user l.kept.values;
  done : (n : Node) → Contains (take l.node-index l.nodes) n → IsKept l.tree l.kept.values n;
}
