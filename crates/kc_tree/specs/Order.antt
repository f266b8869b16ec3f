-- A topological order of the nodes, and a loop: this project's own.
use Rattle.std.specs.Prelude.{◌≡◌, ℕ, ◌+◌, ◌-◌, ◌<◌, List, Some, length, take, slice_get, Contains}
use Rattle.kc_tree.specs.declared.node.Node.{Node}
use Rattle.kc_outline.specs.TreeValue.{TreeValue}
use Rattle.kc_tree.specs.Nodes.{IsNodeOf}
use Rattle.kc_tree.specs.Uses.{Uses}

-- each node of the tree stands in the order once, after all that it uses
pub record IsOrder (t : TreeValue) (order : List Node) : Type 0 where
  pub all : (n : Node) → IsNodeOf t n → Contains order n
  pub only : (n : Node) → Contains order n → IsNodeOf t n
  pub once : (i j : ℕ) (n : Node) → slice_get order i ≡ Some n → slice_get order j ≡ Some n → i ≡ j
  pub after_used : (i : ℕ) (n m : Node) → slice_get order i ≡ Some n → Uses t n m → Contains (take i order) m

-- some nodes, each of which uses the next, and the last the first
pub record IsLoop (t : TreeValue) (nodes : List Node) : Type 0 where
  pub some : 0 < length nodes
  pub next : (i : ℕ) (n m : Node) → slice_get nodes i ≡ Some n → slice_get nodes (i + 1) ≡ Some m → Uses t n m
  pub last : (n m : Node) → slice_get nodes (length nodes - 1) ≡ Some n → slice_get nodes 0 ≡ Some m → Uses t n m
