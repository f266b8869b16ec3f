-- Steps: what is known of the rows so far. No public contract reaches it.
use Rattle.std.specs.Prelude.{◌≡◌, ℕ, ◌<◌, ◌≤◌, List, Option, Some, None, if◌then◌else◌, count_by, filter_map, length, nat_lt, reverse, slice_get, slice_index_or, slice_set, unwrap_or}
use Rattle.kc_outline.specs.declared.id.BlockId.{BlockId}
use Rattle.kc_outline.specs.TreeValue.{TreeValue}
use Rattle.kc_facts.specs.declared.row.Row.{Row}
use Rattle.kc_facts.specs.MenuTree.{AreRowsBack, is_definition, row_that_opens}

-- what is found of a block
abbrev pub found_in : List (Option ℕ) → BlockId → Option ℕ
found_in found b = slice_index_or found b.0 None

-- the first of some blocks that is found, 0 where none is
abbrev pub first_found : (BlockId → Option ℕ) → List BlockId → ℕ
first_found f bs = unwrap_or (slice_get (filter_map f bs) 0) 0

-- what is found after a row that opens this block, or none
abbrev pub found_after : List (Option ℕ) → Option BlockId → ℕ → List (Option ℕ)
found_after found None row = found
found_after found (Some b) row = if nat_lt b.0 (length found) then slice_set found b.0 (Some row) else found

-- the rows are those of the entries so far, the rows that open blocks are found, and the definitions are counted
pub record AreRowsSoFar (t : TreeValue) (rows : List Row) (found : List (Option ℕ)) (definitions : ℕ) : Type 0 where
  pub each : AreRowsBack t (reverse rows)
  pub sized : length found ≡ length t.blocks
  pub right : (b : BlockId) → b.0 < length t.blocks → found_in found b ≡ row_that_opens t (reverse rows) b
  pub before : (k id : ℕ) → slice_index_or found k None ≡ Some id → id ≤ length rows
  pub few : definitions ≤ length rows
  pub counted : definitions ≡ count_by (λ r. is_definition r.entry) (reverse rows)
