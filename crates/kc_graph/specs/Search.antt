-- Steps: this project's own: the state of a depth-first search over a graph.
-- Each node has a mark, and every fact about the path and the order goes through the marks.
use Rattle.std.specs.Prelude.{◌≡◌, ◌≢◌, ℕ, ◌+◌, ◌-◌, ◌<◌, Bool, true, false, List, [], ◌∷◌, length, take, slice_index, slice_index_or, Contains, count_by}
use Rattle.kc_graph.specs.Graph.{row, Uses}
use Rattle.kc_graph.specs.declared.graph.search.Mark.{Mark}
use Rattle.kc_graph.specs.declared.graph.search.Search.{Search}
use Rattle.kc_graph.specs.declared.graph.search.Mark.TheVariants.{New, Open, Done}

-- the mark of a node, New where it has none
abbrev pub mark_of : List Mark → ℕ → Mark
mark_of marks p = slice_index_or marks p New

-- the search has come to the node
abbrev pub IsSeen : List Mark → ℕ → Type 0
IsSeen marks p = mark_of marks p ≢ New

-- no node that was seen is new again
abbrev pub StaysSeen : List Mark → List Mark → Type 0
StaysSeen old new = (p : ℕ) → IsSeen old p → IsSeen new p

abbrev pub is_new : Mark → Bool
is_new New = true
is_new (Open position next) = false
is_new (Done position) = false

-- the nodes on the path are the open ones, each using the next; those in the order are the done ones, each after all
-- that it uses; and each other node is new
pub record IsSound (g : List (List ℕ)) (marks : List Mark) (path order : List ℕ) : Type 0 where
  pub sized : length marks ≡ length g
  pub counted : length path + length order + count_by is_new marks ≡ length marks
  pub on_path : (p position next : ℕ) → mark_of marks p ≡ Open position next → (position < length path) × (slice_index path position ≡ p)
  pub path_at : (i : ℕ) → i < length path → (next : ℕ) × (mark_of marks (slice_index path i) ≡ Open i next)
  pub linked : (i : ℕ) → i + 1 < length path → Uses g (slice_index path i) (slice_index path (i + 1))
  pub passed : (p position next q : ℕ) → mark_of marks p ≡ Open position next → Contains (take next (row g p)) q → (i : ℕ) × (mark_of marks q ≡ Done i)
  pub in_order : (p i : ℕ) → mark_of marks p ≡ Done i → (i < length order) × (slice_index order i ≡ p)
  pub order_at : (i : ℕ) → i < length order → mark_of marks (slice_index order i) ≡ Done i
  pub first : (i q : ℕ) → i < length order → Uses g (slice_index order i) q → (j : ℕ) × (j < i) × (slice_index order j ≡ q)

-- the search is in a sound state over the graph
abbrev pub IsSearchOf : List (List ℕ) → Search → Type 0
IsSearchOf g s = IsSound g s.marks.items s.path.items s.order.items

-- how many steps a node can still take: to be entered, to pass each node that it uses, to be finished
abbrev pub steps_of : List ℕ → Mark → ℕ
steps_of uses New = length uses + 2
steps_of uses (Open position next) = length uses - next + 1
steps_of uses (Done position) = 0

-- how many steps the search can still take
abbrev pub steps_left : List (List ℕ) → List Mark → ℕ
steps_left [] marks = 0
steps_left (uses ∷ g) [] = 0
steps_left (uses ∷ g) (m ∷ marks) = steps_of uses m + steps_left g marks
