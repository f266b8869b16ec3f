use Rattle.std.proofs.Common.{◌≡◌, length, take}
use Rattle.kc_tree.specs.Nodes.{node_count}
use Rattle.kc_value.specs.NodeLists.{AreValuesOf}
use Rattle.kc_value.specs.Solution.{solution}
use Rattle.kc_value.proofs.resolver.Resolver.values_of.Given as goal

-- the nodes so far were asked for, and the list has their values
abbrev pub invariant-loop-node : goal.invariant-loop-node
invariant-loop-node g l =
    let r = g.Self.Resolver in
    let t = r.tree_of l.fn.self in
    let u = r.user_of l.fn.self in
    record {
      tree : r.tree_of l.self ≡ t;
      user : r.user_of l.self ≡ u;
      grew : r.grew l.fn.self l.self (take l.node-index l.fn.nodes);
      sized : length l.values ≡ node_count t;
      values : AreValuesOf t (solution t u) (take l.node-index l.fn.nodes) l.values;
    }
