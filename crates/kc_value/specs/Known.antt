-- What rules read: the values of the nodes of a tree, and of conditions as far as they are known. This project's own.
use Rattle.std.specs.Prelude.{◌≡◌, List, Option, Some}
use Rattle.kc_tree.specs.declared.cell.Cell.{Cell}
use Rattle.kc_tree.specs.Cells.{IsCellOf, IsCondition}
use Rattle.kc_outline.specs.TreeValue.{TreeValue}
use Rattle.kc_value.specs.declared.value.Value.{Value}
use Rattle.kc_value.specs.Assignment.{Assignment, assignment_of}
use Rattle.kc_value.specs.Kept.{cell_value_at, cell_worth}

-- the conditions in a list by number are those that the nodes in it give
unfoldable pub AreRight : TreeValue → List (Option Value) → Type 0
AreRight t values = (c : Cell) (v : Value) → IsCellOf t c → IsCondition c → cell_value_at t values c ≡ Some v
    → v ≡ cell_worth t (assignment_of t values) c

-- a tree, and a value or none for each of its nodes, by number
pub record KnownValue : Type 0 where
  pub tree : TreeValue
  pub values : List (Option Value)

-- what it gives each node, n where it has nothing
abbrev pub given : KnownValue → Assignment
given k = assignment_of k.tree k.values
