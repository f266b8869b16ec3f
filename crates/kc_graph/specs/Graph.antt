-- This project's own: graphs of numbered nodes, with what an order, a loop and the converse of a graph are.
-- A graph is the list of its rows, and row p holds the nodes that node p uses.
use Rattle.std.specs.Prelude.{◌≡◌, ℕ, ◌+◌, ◌-◌, ◌<◌, List, [], length, slice_index, slice_index_or, Contains}
use Rattle.kc_graph.specs.Rows.{number_count}

-- the nodes that node p uses
abbrev pub row : List (List ℕ) → ℕ → List ℕ
row g p = slice_index_or g p []

-- node p uses node q
abbrev pub Uses : List (List ℕ) → ℕ → ℕ → Type 0
Uses g p q = Contains (row g p) q

-- how many uses there are, counting repeats
abbrev pub use_count : List (List ℕ) → ℕ
use_count g = number_count g

-- each node that is used has a row
abbrev pub IsClosed : List (List ℕ) → Type 0
IsClosed g = (p q : ℕ) → Uses g p q → q < length g

-- each node is in the order exactly once, after all that it uses
pub record IsOrder (g : List (List ℕ)) (order : List ℕ) : Type 0 where
  pub within : (i : ℕ) → i < length order → slice_index order i < length g
  pub complete : (p : ℕ) → p < length g → Contains order p
  pub once : (i j : ℕ) → i < length order → j < length order → slice_index order i ≡ slice_index order j → i ≡ j
  pub after : (i q : ℕ) → i < length order → Uses g (slice_index order i) q → (j : ℕ) × (j < i) × (slice_index order j ≡ q)

-- each of the nodes uses the next one, and the last uses the first
pub record IsLoop (g : List (List ℕ)) (nodes : List ℕ) : Type 0 where
  pub some : 0 < length nodes
  pub next : (i : ℕ) → i + 1 < length nodes → Uses g (slice_index nodes i) (slice_index nodes (i + 1))
  pub last : Uses g (slice_index nodes (length nodes - 1)) (slice_index nodes 0)

-- no nodes form a loop
abbrev pub HasNoLoop : List (List ℕ) → Type 0
HasNoLoop g = (nodes : List ℕ) → IsLoop g nodes → ⊥

-- row q of the users holds exactly the nodes that use q
pub record IsConverse (g users : List (List ℕ)) : Type 0 where
  pub size : length users ≡ length g
  pub from_use : (p q : ℕ) → Uses g p q → Uses users q p
  pub to_use : (p q : ℕ) → Uses users p q → Uses g q p
