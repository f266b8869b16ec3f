-- The values that are kept from one question to the next, of nodes and of the conditions that many nodes read: this
-- project's own.
use Rattle.std.specs.Prelude.{◌≡◌, ◌⊎◌, ℕ, suc, ◌-◌, ◌≤◌, Bool, true, List, [], ◌∷◌, Option, Some, None, is_some, length, replicate, slice_index_or, take, Contains}
use Rattle.kc_tree.specs.declared.cell.Cell.{Cell}
use Rattle.kc_tree.specs.declared.cell.Cell.TheVariants.{Node as OfNode, Definition, Depends, Visible}
use Rattle.kc_tree.specs.Cells.{IsCellOf, cell_count, cell_number, condition_of, read_cells}
use Rattle.kc_tree.specs.declared.node.Node.{Node}
use Rattle.kc_outline.specs.TreeValue.{TreeValue}
use Rattle.kc_tree.specs.Nodes.{IsNodeOf, node_count}
use Rattle.kc_tree.specs.Reached.{Reached}
use Rattle.kc_value.specs.declared.value.Value.{Value}
use Rattle.kc_value.specs.declared.value.Value.TheVariants.{Tri as Level}
use Rattle.kc_value.specs.Assignment.{Assignment, value_at}
use Rattle.kc_value.specs.Conditions.{condition_value}
use Rattle.kc_value.specs.Counting.{raised}
use Rattle.kc_value.specs.Solution.{solution}
use Rattle.kc_value.specs.UserValues.{UserValues}

-- a value or none for each cell, by number, and how many evaluations of nodes there were
pub record KeptValue : Type 0 where
  pub values : List (Option Value)
  pub evals : ℕ

-- of a tree of which nothing is kept
abbrev pub nothing_kept : TreeValue → KeptValue
nothing_kept t = record { values = replicate (cell_count t) None; evals = 0 }

abbrev pub is_kept : TreeValue → List (Option Value) → Node → Bool
is_kept t kept n = is_some (value_at t kept n)

abbrev pub IsKept : TreeValue → List (Option Value) → Node → Type 0
IsKept t kept n = is_kept t kept n ≡ true

-- the value of a cell, and that there is one
abbrev pub cell_value_at : TreeValue → List (Option Value) → Cell → Option Value
cell_value_at t kept c = slice_index_or kept (cell_number t c) None

abbrev pub IsHeld : TreeValue → List (Option Value) → Cell → Type 0
IsHeld t kept c = is_some (cell_value_at t kept c) ≡ true

-- how many values there are in a list
unfoldable pub value_count : List (Option Value) → ℕ
value_count [] = 0
value_count (None ∷ kept) = value_count kept
value_count (Some v ∷ kept) = suc (value_count kept)

-- how many values of nodes are kept
abbrev pub kept_count : TreeValue → List (Option Value) → ℕ
kept_count t kept = value_count (take (node_count t) kept)

-- there is a place for each cell, and what a kept cell reads is kept
pub record IsClosed (t : TreeValue) (kept : List (Option Value)) : Type 0 where
  pub whole : length kept ≡ cell_count t
  pub closed : (c e : Cell) → IsCellOf t c → IsHeld t kept c → Contains (read_cells t c) e → IsHeld t kept e

-- what an assignment gives a cell
abbrev pub cell_worth : TreeValue → Assignment → Cell → Value
cell_worth t a (OfNode n) = a n
cell_worth t a (Definition d) = Level (condition_value t a (condition_of t (Definition d)))
cell_worth t a (Depends b) = Level (condition_value t a (condition_of t (Depends b)))
cell_worth t a (Visible b) = Level (condition_value t a (condition_of t (Visible b)))

-- besides, each value that is kept is what the solution gives
pub record AreKept (t : TreeValue) (u : UserValues) (kept : List (Option Value)) : Type 0 where
  pub closed : IsClosed t kept
  pub right : (c : Cell) (v : Value) → IsCellOf t c → cell_value_at t kept c ≡ Some v → v ≡ cell_worth t (solution t u) c

-- what was kept stays, and only nodes that are reached from those asked were added
pub record Adds (t : TreeValue) (asked : List Node) (old new : List (Option Value)) : Type 0 where
  pub each : (n : Node) → IsNodeOf t n
      → (value_at t new n ≡ value_at t old n) ⊎ ((value_at t old n ≡ None) × IsKept t new n × Reached t asked n)
  pub more : kept_count t old ≤ kept_count t new

-- and each of them was evaluated once
pub record Fills (t : TreeValue) (asked : List Node) (old new : KeptValue) : Type 0 where
  pub adds : Adds t asked old.values new.values
  pub counted : new.evals ≡ raised old.evals (kept_count t new.values - kept_count t old.values)
