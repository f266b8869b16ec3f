-- Which tristate values the nodes of a tree may have, whatever its user gives and chooses: this project's own.
use Rattle.std.specs.Prelude.{◌≡◌, true, false, List, length, slice_index_or}
use Rattle.kc_statement.specs.declared.tri.Tri.{Tri}
use Rattle.kc_outline.specs.TreeValue.{TreeValue}
use Rattle.kc_tree.specs.declared.cell.Cell.{Cell}
use Rattle.kc_tree.specs.declared.cell.Cell.TheVariants.{Node as OfNode}
use Rattle.kc_tree.specs.declared.node.Node.{Node}
use Rattle.kc_tree.specs.Cells.{IsCellOf, cell_count, cell_number}
use Rattle.kc_value.specs.Assignment.{Assignment, as_tri}
use Rattle.kc_value.specs.ExprValue.{modules_value}
use Rattle.kc_value.specs.Kept.{cell_worth}
use Rattle.kc_value.specs.Solution.{IsOnlySolution, solution}
use Rattle.kc_value.specs.UserValues.{IsUserFor, UserValues}
use Rattle.kc_bounds.specs.declared.tri_set.TriSet.{TriSet}
use Rattle.kc_bounds.specs.TriSets.{IsIn, any_tri}

-- The set has what is computed from the values of all nodes, whatever the user gives and chooses.
abbrev pub Covers : TreeValue → TriSet → (Assignment → Tri) → Type 0
Covers t s f = (w : UserValues) → IsUserFor t w → IsIn s (f (solution t w))

-- user values of a tree with which MODULES has a value of a set
pub record IsScoped (t : TreeValue) (modules : TriSet) (w : UserValues) : Type 0 where
  pub user : IsUserFor t w
  pub within : IsIn modules (modules_value t (solution t w))

-- The set has what is computed from the values of all nodes, whatever the user gives and chooses with which MODULES has a
-- value of the scope.
abbrev pub CoversIn : TreeValue → TriSet → TriSet → (Assignment → Tri) → Type 0
CoversIn t modules s f = (w : UserValues) → IsScoped t modules w → IsIn s (f (solution t w))

-- a tree, the values of MODULES that count, and a set for each of its cells, by number
pub record ScopedValue : Type 0 where
  pub tree : TreeValue
  pub modules : TriSet
  pub sets : List TriSet

-- the set of a cell
abbrev pub set_of : ScopedValue → Cell → TriSet
set_of b c = slice_index_or b.sets (cell_number b.tree c) any_tri

-- Each set has what its cell is worth, whatever the user gives and chooses with which MODULES has a value that counts.
pub record AreScopedBounds (b : ScopedValue) : Type 0 where
  pub whole : length b.sets ≡ cell_count b.tree
  pub covers : (c : Cell) → IsCellOf b.tree c → CoversIn b.tree b.modules (set_of b c) (λ a. as_tri (cell_worth b.tree a c))
  pub solved : (w : UserValues) → IsOnlySolution b.tree w (solution b.tree w)

-- MODULES is n, and it is m or y
abbrev pub without_modules : TriSet
without_modules = record { no = true; «module» = false; yes = false }

abbrev pub with_modules : TriSet
with_modules = record { no = false; «module» = true; yes = true }

-- a tree, and the sets of its cells where MODULES is n, and where it is m or y
pub record BoundsValue : Type 0 where
  pub tree : TreeValue
  pub off : List TriSet
  pub on : List TriSet

-- bounds of one tree for both
pub record AreBoth (off on : ScopedValue) : Type 0 where
  pub same : on.tree ≡ off.tree
  pub without : off.modules ≡ without_modules
  pub with_them : on.modules ≡ with_modules
