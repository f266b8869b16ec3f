-- The nodes that rows of cells lead to, with those that their conditions read: this project's own.
-- A table has the rows of n nodes first, and those of conditions after them.
use Rattle.std.specs.Prelude.{ℕ, zero, suc, ◌<◌, ◌≤◌, if◌then◌else◌, nat_lt, Bool, List, [], ◌∷◌, length, take, map, flat_map, filter, slice_index_or}
use Rattle.kc_graph.specs.Graph.{Uses}

-- the number is that of one of n nodes
abbrev pub is_node : ℕ → ℕ → Bool
is_node n k = nat_lt k n

-- a number, and those to which it leads through conditions; the first number says how many may follow one another
abbrev pub trail : ℕ → ℕ → List (List ℕ) → ℕ → List ℕ
trail zero n g k = []
trail (suc fuel) n g k = k ∷ (if is_node n k then [] else flat_map (trail fuel n g) (slice_index_or g k []))

-- those of the numbers of a row
abbrev pub trails : ℕ → List (List ℕ) → List ℕ → List ℕ
trails n g numbers = flat_map (trail (length g) n g) numbers

-- the nodes among them
abbrev pub whole_row : ℕ → List (List ℕ) → List ℕ → List ℕ
whole_row n g numbers = filter (is_node n) (trails n g numbers)

-- the rows of the nodes, with all that conditions read
abbrev pub whole_rows : ℕ → List (List ℕ) → List (List ℕ)
whole_rows n g = map (whole_row n g) (take n g)

-- a row holds a node itself, or a condition whose row holds it
pub data Holds (n : ℕ) (g : List (List ℕ)) : ℕ → ℕ → Type 0 where
  itself : {p q : ℕ} → q < n → Uses g p q → Holds n g p q
  through : {p q s : ℕ} → n ≤ s → Uses g p s → Holds n g s q → Holds n g p q
