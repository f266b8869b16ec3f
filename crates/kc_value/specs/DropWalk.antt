-- Steps: the walk that drops what is computed from nodes that change: this project's own.
use Rattle.std.specs.Prelude.{◌≡◌, ◌⊎◌, ℕ, ◌+◌, ◌<◌, ◌≤◌, Bool, List, Option, None, Contains, is_some, true, length, slice_index_or}
use Rattle.kc_statement.specs.declared.id.SymId.{SymId}
use Rattle.kc_outline.specs.declared.id.ChoiceId.{ChoiceId}
use Rattle.kc_outline.specs.TreeValue.{TreeValue}
use Rattle.kc_tree.specs.declared.cell.Cell.{Cell}
use Rattle.kc_tree.specs.declared.cell.Cell.TheVariants.{Node as OfNode}
use Rattle.kc_tree.specs.declared.node.Node.{Node}
use Rattle.kc_tree.specs.declared.node.Node.TheVariants.{Val, Mode, Sel}
use Rattle.kc_tree.specs.Cells.{IsCellOf, cell_at, cell_count, cell_number, read_cells}
use Rattle.kc_tree.specs.Nodes.{IsNodeOf, number_of}
use Rattle.kc_value.specs.declared.value.Value.{Value}
use Rattle.kc_value.specs.Assignment.{value_at}
use Rattle.kc_value.specs.Dirty.{IsDirty, is_changed}
use Rattle.kc_value.specs.Kept.{IsClosed, IsHeld, cell_value_at, value_count}
use Rattle.kc_value.specs.UserValues.{UserValues}

-- the value of the cell of a number
abbrev pub value_of : List (Option Value) → ℕ → Option Value
value_of values k = slice_index_or values k None

-- The values of some cells are dropped and no others, and each cell that had one comes to a list of cells, which so
-- grows by no more than the values become fewer.
pub record DropsAll (dropped : ℕ → Type 0) (old new : List (Option Value)) (before after : List ℕ) : Type 0 where
  pub whole : length new ≡ length old
  pub each : (k : ℕ) → (value_of new k ≡ value_of old k) ⊎ ((value_of new k ≡ None) × dropped k)
  pub gone : (k : ℕ) → dropped k → value_of new k ≡ None
  pub stay : (k : ℕ) → Contains before k → Contains after k
  pub listed : (k : ℕ) → Contains after k → Contains before k ⊎ dropped k
  pub found : (k : ℕ) → is_some (value_of old k) ≡ true → (is_some (value_of new k) ≡ true) ⊎ Contains after k
  pub room : length after + value_count new ≤ length before + value_count old

-- the one number, where something is so
abbrev pub IsOneIf : Bool → ℕ → ℕ → Type 0
IsOneIf b number k = (b ≡ true) × (k ≡ number)

-- ---- numbers of nodes that change where the user values become others
abbrev pub IsChangedAt : TreeValue → UserValues → UserValues → Node → ℕ → Type 0
IsChangedAt t u w n k = (is_changed t u w n ≡ true) × (k ≡ number_of t n)

-- of the value of one of the first symbols
abbrev pub IsChangedValue : TreeValue → UserValues → UserValues → ℕ → ℕ → Type 0
IsChangedValue t u w count k = (s : SymId) × (s.0 < count) × IsChangedAt t u w (Val s) k

-- of the mode or the selection of one of the first choices
abbrev pub IsChangedChoice : TreeValue → UserValues → UserValues → ℕ → ℕ → Type 0
IsChangedChoice t u w count k = (c : ChoiceId) × (c.0 < count) × (IsChangedAt t u w (Mode c) k ⊎ IsChangedAt t u w (Sel c) k)

-- of any node
abbrev pub IsChangedNumber : TreeValue → UserValues → UserValues → ℕ → Type 0
IsChangedNumber t u w k = (n : Node) × IsNodeOf t n × IsChangedAt t u w n k

-- ---- the walk
-- a cell reads a node, itself or through others, or is that node
pub data ReadsFrom (t : TreeValue) (n : Node) : Cell → Type 0 where
  here : ReadsFrom t n (OfNode n)
  step : {c e : Cell} → Contains (read_cells t c) e → ReadsFrom t n e → ReadsFrom t n c

-- so does it a node that changes
abbrev pub IsFrom : TreeValue → UserValues → UserValues → Cell → Type 0
IsFrom t u w c = (n : Node) × IsNodeOf t n × (is_changed t u w n ≡ true) × ReadsFrom t n c

-- The nodes that change have no value, nor have some cells that are computed from them, and the others are as they were.
-- What a cell that is kept reads is kept, or listed.
pub record IsDropping (t : TreeValue) (u w : UserValues) (old new : List (Option Value)) (list : List ℕ) : Type 0 where
  pub whole : length new ≡ length old
  pub started : (n : Node) → IsNodeOf t n → is_changed t u w n ≡ true → value_at t new n ≡ None
  pub each : (c : Cell) → IsCellOf t c → (cell_value_at t new c ≡ cell_value_at t old c) ⊎ ((cell_value_at t new c ≡ None) × IsFrom t u w c)
  pub listed : (k : ℕ) → Contains list k → (k < cell_count t) × IsFrom t u w (cell_at t k)
  pub closed : (c e : Cell) → IsCellOf t c → IsHeld t new c → Contains (read_cells t c) e → IsHeld t new e ⊎ Contains list (cell_number t e)

-- Once nothing is listed, the dirty nodes have no value, and all other nodes are as they were, with all that they are
-- computed from.
pub record IsDropped (t : TreeValue) (u w : UserValues) (old new : List (Option Value)) : Type 0 where
  pub closed : IsClosed t new
  pub dropped : (n : Node) → IsNodeOf t n → IsDirty t u w n → value_at t new n ≡ None
  pub each : (n : Node) → IsNodeOf t n → (value_at t new n ≡ value_at t old n) ⊎ ((value_at t new n ≡ None) × IsDirty t u w n)
  pub cells : (c : Cell) → IsCellOf t c → (cell_value_at t new c ≡ cell_value_at t old c) ⊎ (cell_value_at t new c ≡ None)
