-- What holds of the cells of each tree, and of the tables of them: this project's own.
use Rattle.std.specs.Prelude.{◌≡◌, ℕ, ◌<◌, List, [], Some, length, map, take, Contains, slice_get, slice_index_or, ◌↔◌}
use Rattle.kc_outline.specs.TreeValue.{TreeValue}
use Rattle.kc_tree.specs.declared.node.Node.{Node}
use Rattle.kc_tree.specs.declared.cell.Cell.{Cell}
use Rattle.kc_tree.specs.declared.cell.Cell.TheVariants.{Node as OfNode}
use Rattle.kc_tree.specs.Nodes.{IsNodeOf}
use Rattle.kc_tree.specs.Cells.{IsCellOf, IsCondition, cell_at, cell_count, cell_number, condition_of, read_cells}
use Rattle.kc_tree.specs.Uses.{Uses, condition_nodes}

-- a cell reads a node, itself or by a condition that it reads
pub data Reads (t : TreeValue) : Cell → Node → Type 0 where
  itself : {c : Cell} {n : Node} → Contains (read_cells t c) (OfNode n) → Reads t c n
  through : {c e : Cell} {n : Node} → IsCondition e → Contains (read_cells t c) e → Reads t e n → Reads t c n

pub record CellLaws (t : TreeValue) : Type 0 where
  -- The numbers of the cells are one to one, from 0.
  pub below : (c : Cell) → IsCellOf t c → cell_number t c < cell_count t
  pub same : (c : Cell) → IsCellOf t c → cell_at t (cell_number t c) ≡ c
  pub inside : (k : ℕ) → k < cell_count t → IsCellOf t (cell_at t k)
  pub at : (k : ℕ) → k < cell_count t → cell_number t (cell_at t k) ≡ k
  -- What a cell of the tree reads is a cell of the tree,
  pub within : (c e : Cell) → IsCellOf t c → Contains (read_cells t c) e → IsCellOf t e
  -- and is lower than it by some measure, so that no cells form a loop.
  pub height : Cell → ℕ
  pub lower : (c e : Cell) → IsCellOf t c → Contains (read_cells t c) e → height e < height c
  -- A node is computed from just the nodes that it reads, itself or by conditions,
  pub uses : (n m : Node) → IsNodeOf t n → Uses t n m ↔ Reads t (OfNode n) m
  -- and a condition reads those of its factors.
  pub factors : (c : Cell) (m : Node) → IsCellOf t c → IsCondition c → Contains (condition_nodes t (condition_of t c)) m ↔ Reads t c m

-- row k of a table has the numbers of just the cells that the cell of number k reads
pub record IsCellTable (t : TreeValue) (rows : List (List ℕ)) : Type 0 where
  pub whole : length rows ≡ cell_count t
  pub within : (k j : ℕ) → Contains (slice_index_or rows k []) j → j < cell_count t
  pub exact : (c e : Cell) → IsCellOf t c → Contains (map (cell_at t) (slice_index_or rows (cell_number t c) [])) e ↔ Contains (read_cells t c) e

-- and of those that read it
pub record IsReaderTable (t : TreeValue) (rows : List (List ℕ)) : Type 0 where
  pub whole : length rows ≡ cell_count t
  pub within : (k j : ℕ) → Contains (slice_index_or rows k []) j → j < cell_count t
  pub exact : (c e : Cell) → IsCellOf t c → IsCellOf t e
      → Contains (map (cell_at t) (slice_index_or rows (cell_number t c) [])) e ↔ Contains (read_cells t e) c

-- each cell is in the order once, after all that it reads
pub record IsCellOrder (t : TreeValue) (order : List ℕ) : Type 0 where
  pub within : (k : ℕ) → Contains order k → k < cell_count t
  pub all : (k : ℕ) → k < cell_count t → Contains order k
  pub once : (i j k : ℕ) → slice_get order i ≡ Some k → slice_get order j ≡ Some k → i ≡ j
  pub after_read : (i k : ℕ) (e : Cell) → slice_get order i ≡ Some k → Contains (read_cells t (cell_at t k)) e
      → Contains (take i order) (cell_number t e)
