-- A tree with user values, and values of its nodes that are those of the solution: this project's own.
use Rattle.std.specs.Prelude.{◌≡◌, List, Option}
use Rattle.kc_tree.specs.declared.node.Node.{Node}
use Rattle.kc_outline.specs.TreeValue.{TreeValue}
use Rattle.kc_tree.specs.Nodes.{IsNodeOf}
use Rattle.kc_tree.specs.Uses.{Uses}
use Rattle.kc_value.specs.declared.value.Value.{Value}
use Rattle.kc_value.specs.Assignment.{assignment_of}
use Rattle.kc_value.specs.Kept.{IsKept}
use Rattle.kc_value.specs.Solution.{solution}
use Rattle.kc_value.specs.UserValues.{UserValues}

-- a tree, user values, and a value or none for each node of the tree, by number
pub record SolvedValue : Type 0 where
  pub tree : TreeValue
  pub user : UserValues
  pub values : List (Option Value)

-- each node that has a value has the solution's, and so have those that it is computed from
pub record IsSolved (t : TreeValue) (u : UserValues) (values : List (Option Value)) : Type 0 where
  pub right : (n : Node) → IsNodeOf t n → IsKept t values n → assignment_of t values n ≡ solution t u n
  pub used : (n m : Node) → IsNodeOf t n → IsKept t values n → Uses t n m → assignment_of t values m ≡ solution t u m
