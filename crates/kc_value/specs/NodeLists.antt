-- Nodes of a tree in a list, and what a list by number has for them: this project's own.
use Rattle.std.specs.Prelude.{◌≡◌, List, Option, Some, Contains}
use Rattle.kc_tree.specs.declared.node.Node.{Node}
use Rattle.kc_outline.specs.TreeValue.{TreeValue}
use Rattle.kc_tree.specs.Nodes.{IsNodeOf}
use Rattle.kc_value.specs.declared.value.Value.{Value}
use Rattle.kc_value.specs.Assignment.{Assignment, value_at}

-- each node in a list is one of the tree
abbrev pub AreNodesOf : TreeValue → List Node → Type 0
AreNodesOf t nodes = (n : Node) → Contains nodes n → IsNodeOf t n

-- a list by number has what an assignment gives each of these nodes
abbrev pub AreValuesOf : TreeValue → Assignment → List Node → List (Option Value) → Type 0
AreValuesOf t a nodes values = (n : Node) → Contains nodes n → value_at t values n ≡ Some (a n)
