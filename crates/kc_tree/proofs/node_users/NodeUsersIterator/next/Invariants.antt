use Rattle.std.proofs.Common.{◌≡◌, ◌≤◌, map, reverse}
use Rattle.kc_tree.specs.Nodes.{node_in}
use Rattle.kc_tree.specs.Users.{IsPath, steps_left, users_left}
use Rattle.kc_tree.proofs.node_users.NodeUsersIterator.next.Given as goal

-- the nodes that are left are those that were
abbrev pub invariant-loop-row : goal.invariant-loop-row
invariant-loop-row l = record {
  same : map (node_in l.self-inside.symbols) (users_left l.self-inside.nodes l.self-inside.users.now (reverse (map (λ r. r.now) l.self-inside.left.items))) ≡ l.fn.self;
  few : l.self-inside.symbols ≤ 65535;
  path : IsPath l.self-inside.nodes l.self-inside.users.now (reverse (map (λ r. r.now) l.self-inside.left.items));
}

abbrev pub decreases-loop-row : goal.decreases-loop-row
decreases-loop-row l = steps_left l.self-inside.nodes l.self-inside.users.now (reverse (map (λ r. r.now) l.self-inside.left.items))
