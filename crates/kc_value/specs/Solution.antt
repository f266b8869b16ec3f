-- The solution: the assignment in which every node has the value that its rule gives. This project's own.
use Rattle.std.specs.Prelude.{◌≡◌, ℕ, zero, suc, List, Option}
use Rattle.kc_statement.specs.declared.tri.Tri.TheVariants.{No}
use Rattle.kc_tree.specs.declared.node.Node.{Node}
use Rattle.kc_outline.specs.TreeValue.{TreeValue}
use Rattle.kc_tree.specs.Nodes.{IsNodeOf, node_count}
use Rattle.kc_value.specs.declared.value.Value.{Value}
use Rattle.kc_value.specs.declared.value.Value.TheVariants.{Tri as Level}
use Rattle.kc_value.specs.Assignment.{Assignment, assignment_of}
use Rattle.kc_value.specs.UserValues.{UserValues}
use Rattle.kc_value.specs.Rule.{rule}

-- the equation that all nodes of the tree meet at once
abbrev pub IsSolution : TreeValue → UserValues → Assignment → Type 0
IsSolution t u a = (n : Node) → IsNodeOf t n → a n ≡ rule t u a n

-- The assignment is a solution, so that there is one; and it is the only one: each solution gives every
-- node of the tree the value that this one gives it.
pub record IsOnlySolution (t : TreeValue) (u : UserValues) (a : Assignment) : Type 0 where
  pub solves : IsSolution t u a
  pub only : (b : Assignment) → IsSolution t u b → (n : Node) → IsNodeOf t n → b n ≡ a n

-- the rule applied to all nodes at once, k times
unfoldable pub applied : TreeValue → UserValues → ℕ → Assignment
applied t u zero n = Level No
applied t u (suc k) n = rule t u (applied t u k) n

-- A name for the only solution of a tree without loop: no value changes any more once the rule was
-- applied as often as there are nodes. That it is the only solution is a clause of `Resolver::node`.
unfoldable pub solution : TreeValue → UserValues → Assignment
solution t u = applied t u (node_count t)

-- a list by number has the solution's value for each node of the tree
abbrev pub AreSolved : TreeValue → UserValues → List (Option Value) → Type 0
AreSolved t u values = (n : Node) → IsNodeOf t n → assignment_of t values n ≡ solution t u n
