-- Steps: the graph of the nodes of a tree, by number: this project's own.
use Rattle.std.specs.Prelude.{◌≡◌, ℕ, List, length, ◌↔◌}
use Rattle.kc_outline.specs.TreeValue.{TreeValue}
use Rattle.kc_tree.specs.Nodes.{node_at, node_count}
use Rattle.kc_tree.specs.Uses.{Uses}
use Rattle.kc_graph.specs.Graph as graph

-- each node has a row, and a row has the numbers of just the nodes that its node is computed from
pub record IsGraphOf (t : TreeValue) (g : List (List ℕ)) : Type 0 where
  pub whole : length g ≡ node_count t
  pub exact : (p q : ℕ) → graph.Uses g p q ↔ Uses t (node_at t p) (node_at t q)
