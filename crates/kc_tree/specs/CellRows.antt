-- What rows of numbers hold of nodes and of cells while they are made: this project's own.
use Rattle.std.specs.Prelude.{◌≡◌, ℕ, ◌+◌, ◌<◌, ◌≤◌, ◌==◌, Bool, ◌||◌, List, [], length, Contains, slice_index, slice_index_or}
use Rattle.std.specs.List.{list_any}
use Rattle.kc_graph.specs.Graph.{IsClosed}
use Rattle.kc_tree.specs.declared.node.Node.{Node}
use Rattle.kc_tree.specs.declared.node.Node.TheVariants.{Vis, Val, Mode, Sel}
use Rattle.kc_tree.specs.declared.cell.Cell.{Cell}
use Rattle.kc_outline.specs.TreeValue.{TreeValue}
use Rattle.kc_tree.specs.Nodes.{node_count, number_in}
use Rattle.kc_tree.specs.Uses.{symbol_nodes, visibility_node, mode_nodes, selection_nodes}
use Rattle.kc_tree.specs.Cells.{IsCondition, cell_at, cell_number, read_cells}

-- a number is in the row
abbrev pub has_number : List ℕ → ℕ → Bool
has_number row k = list_any (λ j. j == k) row

-- the number is that of one of the nodes, in a tree with this number of symbols
abbrev pub has_node : ℕ → List Node → ℕ → Bool
has_node symbols nodes k = list_any (λ n. number_in symbols n == k) nodes

-- the number is that of one of the cells
abbrev pub has_cell : TreeValue → List Cell → ℕ → Bool
has_cell t cells k = list_any (λ c. cell_number t c == k) cells

-- the row has just the numbers that it had, and those of the nodes, in a tree with this number of symbols
pub record Adds (symbols : ℕ) (old new : List ℕ) (nodes : List Node) : Type 0 where
  pub has : (k : ℕ) → has_number new k ≡ (has_number old k || has_node symbols nodes k)

-- and those of the cells
pub record AddsCells (t : TreeValue) (old new : List ℕ) (cells : List Cell) : Type 0 where
  pub has : (k : ℕ) → has_number new k ≡ (has_number old k || has_cell t cells k)

-- two rows have the same numbers
pub record HaveSame (xs ys : List ℕ) : Type 0 where
  pub has : (k : ℕ) → has_number xs k ≡ has_number ys k

-- the node, where the tree has its symbol or choice
abbrev pub node_there : TreeValue → Node → List Node
node_there t (Vis s) = visibility_node t s
node_there t (Val s) = symbol_nodes t s
node_there t (Mode c) = mode_nodes t c
node_there t (Sel c) = selection_nodes t c

-- ---- whole rows
-- all numbers of the row but the last are those of nodes
abbrev pub IsChain : ℕ → List ℕ → Type 0
IsChain nodes row = (i : ℕ) → i + 1 < length row → slice_index row i < nodes

-- the row has the numbers of just the cells that the cell reads; in that of a condition, any condition is the last
pub record IsRowOf (t : TreeValue) (c : Cell) (row : List ℕ) : Type 0 where
  pub has : (k : ℕ) → has_number row k ≡ has_cell t (read_cells t c) k
  pub chain : IsCondition c → IsChain (node_count t) row

-- the rows are those of the first n cells
pub record AreRowsTo (t : TreeValue) (n : ℕ) (rows : List (List ℕ)) : Type 0 where
  pub whole : length rows ≡ n
  pub each : (k : ℕ) → k < n → IsRowOf t (cell_at t k) (slice_index_or rows k [])

-- each number of a row is that of one of the rows
abbrev pub AreInside : List (List ℕ) → List ℕ → Type 0
AreInside rows row = (j : ℕ) → Contains row j → j < length rows

-- each number is that of a row; in the row of each condition any condition is the last, and all are lower than it
pub record AreChains (nodes : ℕ) (rows : List (List ℕ)) : Type 0 where
  pub closed : IsClosed rows
  pub chain : (k : ℕ) → nodes ≤ k → IsChain nodes (slice_index_or rows k [])
  pub falls : (k j : ℕ) → nodes ≤ k → Contains (slice_index_or rows k []) j → j < k
