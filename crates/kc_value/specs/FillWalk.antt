-- Steps: how far a walk has gone over what a cell reads: this project's own.
use Rattle.std.specs.Prelude.{◌≡◌, ℕ, ◌<◌, ◌≤◌, true, List, Option, None, Contains, is_some, length, slice_index_or}
use Rattle.kc_outline.specs.TreeValue.{TreeValue}
use Rattle.kc_tree.specs.declared.cell.Cell.{Cell}
use Rattle.kc_tree.specs.declared.cell.Cell.TheVariants.{Node as OfNode, Definition, Depends, Visible}
use Rattle.kc_tree.specs.declared.node.Node.{Node}
use Rattle.kc_tree.specs.Cells.{read_cells}
use Rattle.kc_value.specs.declared.summary.Summary.{Summary}
use Rattle.kc_value.specs.declared.summary.Summary.TheVariants.{Absent}
use Rattle.kc_value.specs.declared.value.Value.{Value}
use Rattle.kc_value.specs.Assignment.{Assignment}
use Rattle.kc_value.specs.Counting.{raised}
use Rattle.kc_value.specs.Kept.{cell_worth}
use Rattle.kc_value.specs.Rule.{rule}
use Rattle.kc_value.specs.Summaries.{is_present}
use Rattle.kc_value.specs.UserValues.{UserValues}

-- the cell of a number has a value
abbrev pub HasValue : List (Option Value) → ℕ → Type 0
HasValue kept k = is_some (slice_index_or kept k None) ≡ true

-- the first numbers of a row, up to a place, are those of cells with values
abbrev pub HaveValues : List (Option Value) → List ℕ → ℕ → Type 0
HaveValues kept numbers place = (j : ℕ) → j < place → j < length numbers → HasValue kept (slice_index_or numbers j 0)

-- and all of them
abbrev pub AllHaveValues : List (Option Value) → List ℕ → Type 0
AllHaveValues kept numbers = HaveValues kept numbers (length numbers)

-- between two places of a row each number is that of a cell of which it is said that it has a value
abbrev pub ArePresent : List Summary → List ℕ → ℕ → ℕ → Type 0
ArePresent summaries numbers from to = (i : ℕ) → from ≤ i → i < to → i < length numbers → is_present (slice_index_or summaries (slice_index_or numbers i 0) Absent) ≡ true

-- a cell that nodes asked for read, themselves or through others
pub data IsWanted (t : TreeValue) (asked : List Node) : Cell → Type 0 where
  asked_for : {n : Node} → Contains asked n → IsWanted t asked (OfNode n)
  read : {c e : Cell} → IsWanted t asked c → Contains (read_cells t c) e → IsWanted t asked e

-- what the rule of a cell gives: of a node its own, of a condition what it is worth
abbrev pub cell_rule : TreeValue → UserValues → Assignment → Cell → Value
cell_rule t u a (OfNode n) = rule t u a n
cell_rule t u a (Definition d) = cell_worth t a (Definition d)
cell_rule t u a (Depends b) = cell_worth t a (Depends b)
cell_rule t u a (Visible b) = cell_worth t a (Visible b)

-- the count of evaluations with one of a cell: that of a node alone is counted
abbrev pub counted_with : Cell → ℕ → ℕ
counted_with (OfNode n) count = raised count 1
counted_with (Definition d) count = count
counted_with (Depends b) count = count
counted_with (Visible b) count = count
