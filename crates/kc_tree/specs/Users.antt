-- The nodes that are computed from a node, by the table of what reads each cell: those that read it, and those that read a
-- condition that reads it. This project's own. A table has the rows of n nodes first, and those of conditions after them.
use Rattle.std.specs.Prelude.{ℕ, ◌+◌, ◌*◌, ◌<◌, ◌≤◌, List, [], ◌∷◌, ◌++◌, length, flat_map, filter, slice_index_or, Contains}
use Rattle.kc_graph.specs.Graph.{IsClosed}
use Rattle.kc_outline.specs.declared.limits.TheConstants.{MOST_OPEN_BLOCKS}
use Rattle.kc_tree.specs.declared.node_users.TheConstants.{MOST_ROWS}
use Rattle.kc_tree.specs.WholeRows.{is_node, trail}

-- each condition is on a level, no higher than blocks may be nested, and on a higher one than those that it reads
pub record AreLeveled (n : ℕ) (users : List (List ℕ)) : Type 0 where
  pub closed : IsClosed users
  pub level : ℕ → ℕ
  pub few : (k : ℕ) → level k ≤ MOST_OPEN_BLOCKS
  pub rises : (k j : ℕ) → n ≤ k → n ≤ j → Contains (slice_index_or users k []) j → level k < level j

-- the numbers to which those of a row lead, themselves and through conditions
abbrev pub user_trails : ℕ → List (List ℕ) → List ℕ → List ℕ
user_trails n users row = flat_map (trail MOST_ROWS n users) row

-- the nodes among them
abbrev pub whole_users : ℕ → List (List ℕ) → List ℕ → List ℕ
whole_users n users row = filter (is_node n) (user_trails n users row)

-- ---- what is left of rows, the innermost first
-- those of each
abbrev pub users_left : ℕ → List (List ℕ) → List (List ℕ) → List ℕ
users_left n users [] = []
users_left n users (row ∷ rows) = whole_users n users row ++ users_left n users rows

-- each number is that of a row, and each condition is as high as there are rows around
pub record IsHigh (n : ℕ) (users : List (List ℕ)) (level : ℕ → ℕ) (around : ℕ) (row : List ℕ) : Type 0 where
  pub inside : (k : ℕ) → Contains row k → k < length users
  pub high : (k : ℕ) → Contains row k → n ≤ k → around ≤ level k

abbrev pub AreHigh : ℕ → List (List ℕ) → (ℕ → ℕ) → List (List ℕ) → Type 0
AreHigh n users level [] = Unit {0}
AreHigh n users level (row ∷ rows) = IsHigh n users level (length rows) row × AreHigh n users level rows

-- each row but the outermost is that of a condition in the one around, and few are
pub record IsPath (n : ℕ) (users rows : List (List ℕ)) : Type 0 where
  pub leveled : AreLeveled n users
  pub few : length rows ≤ MOST_ROWS
  pub high : AreHigh n users leveled.level rows

-- how many steps they take at most
abbrev pub steps_left : ℕ → List (List ℕ) → List (List ℕ) → ℕ
steps_left n users [] = 0
steps_left n users (row ∷ rows) = 1 + (2 * length (user_trails n users row) + steps_left n users rows)
