-- Steps: this project's own: the users of the nodes of a graph, while they are being counted and collected.
use Rattle.std.specs.Prelude.{◌≡◌, ◌==◌, ℕ, ◌+◌, ◌<◌, ◌≤◌, ◌⊎◌, List, length, slice_index, slice_range, Contains, count_by, flat_map, nat_lt, sum}
use Rattle.kc_graph.specs.Graph.{Uses}
use Rattle.kc_graph.specs.declared.graph.users.UserRows.{UserRows}

-- how often a list names node q
abbrev pub times : List ℕ → ℕ → ℕ
times uses q = count_by (λ used. used == q) uses

-- the uses of all rows, one after another
abbrev pub uses_in : List (List ℕ) → List ℕ
uses_in g = flat_map (λ uses. uses) g

-- each count has grown by how often the uses name its node, and so their sum by how many uses there are
pub record AddsCounts (old new uses : List ℕ) : Type 0 where
  pub size : length new ≡ length old
  pub total : sum new ≡ sum old + length uses
  pub each : (q : ℕ) → q < length old → slice_index new q ≡ slice_index old q + times uses q

-- the place of the first user of node q, where the users of each node come after those of the nodes before it: how many
-- of the uses name one of these
abbrev pub first_place : List ℕ → ℕ → ℕ
first_place uses q = count_by (λ used. nat_lt used q) uses

-- all uses name nodes that have a place, no node's next place is before its first one, and from its next place up to
-- the first place of the node after it there is room for just those of its uses that are left
pub record HasRoom (places : List ℕ) (count : ℕ) (uses left : List ℕ) : Type 0 where
  pub all : first_place uses (length places) ≡ length uses
  pub size : count ≡ length uses
  pub begun : (q : ℕ) → q < length places → first_place uses q ≤ slice_index places q
  pub room : (q : ℕ) → q < length places → slice_index places q + times left q ≡ first_place uses (q + 1)

-- the rows have room for just the uses that are left of all uses
abbrev pub HasRoomFor : UserRows → List ℕ → List ℕ → Type 0
HasRoomFor rows uses left = HasRoom rows.places.items (length rows.users.items) uses left

-- the users of node q so far: those between its first place and its next one
abbrev pub users_so_far : List ℕ → List ℕ → List ℕ → ℕ → List ℕ
users_so_far users places uses q = slice_range users (first_place uses q) (slice_index places q)

abbrev pub users_of : UserRows → List ℕ → ℕ → List ℕ
users_of rows uses q = users_so_far rows.users.items rows.places.items uses q

-- the user was added to those of each node that it uses, and nothing else has changed
pub record AddsUser (old new : ℕ → List ℕ) (uses : List ℕ) (user : ℕ) : Type 0 where
  pub kept : (q p : ℕ) → Contains (old q) p → Contains (new q) p
  pub added : (q : ℕ) → Contains uses q → Contains (new q) user
  pub only : (q p : ℕ) → Contains (new q) p → Contains (old q) p ⊎ ((p ≡ user) × Contains uses q)

-- the users among the first n nodes are collected
pub record IsConverseBelow (g : List (List ℕ)) (users : ℕ → List ℕ) (n : ℕ) : Type 0 where
  pub from_use : (p q : ℕ) → p < n → Uses g p q → Contains (users q) p
  pub to_use : (p q : ℕ) → Contains (users q) p → Uses g p q
