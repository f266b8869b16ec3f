-- The rows of the menu tree: this project's own, after kconfig-language.rst, "Menu structure". Rows before a row are in
-- reverse here, the last first, so that each of these looks back from the row.
use Rattle.std.specs.Prelude.{◌≡◌, ℕ, zero, suc, ◌==◌, ◌<◌, Bool, true, false, List, [], ◌∷◌, Option, Some, None, option_map, option_and_then, unwrap_or, if◌then◌else◌, count_by, filter, filter_map, find, length, map, reverse, slice_get}
use Rattle.std.specs.Option.{option_map_or}
use Rattle.kc_outline.specs.declared.id.BlockId.{BlockId}
use Rattle.kc_outline.specs.declared.entry.Entry.{Entry}
use Rattle.kc_outline.specs.declared.entry.Entry.TheVariants.{Symbol, Again, Menu, EndMenu, Choice, Comment}
use Rattle.kc_outline.specs.declared.limits.TheConstants.{MOST_OPEN_BLOCKS}
use Rattle.kc_outline.specs.TreeValue.{TreeValue, BlockValue}
use Rattle.kc_lines.specs.BlocksOutwards.{blocks_outwards}
use Rattle.kc_facts.specs.declared.row.Row.{Row}

-- ---- entries
-- each entry has a row but the ends of menus
abbrev pub has_row : Entry → Bool
has_row (Symbol s) = true
has_row (Again s) = true
has_row (Menu b) = true
has_row (EndMenu b) = false
has_row (Choice c) = true
has_row (Comment c) = true

-- an entry of a symbol is a definition, the first or another
abbrev pub is_definition : Entry → Bool
is_definition (Symbol s) = true
is_definition (Again s) = true
is_definition (Menu b) = false
is_definition (EndMenu b) = false
is_definition (Choice c) = false
is_definition (Comment c) = false

-- the block that an entry opens: a menu, or that of a choice
abbrev pub opened : TreeValue → Entry → Option BlockId
opened t (Symbol s) = None
opened t (Again s) = None
opened t (Menu b) = Some b
opened t (EndMenu b) = None
opened t (Choice c) = option_map (λ x. x.block) (slice_get t.choices c.0)
opened t (Comment c) = None

abbrev pub opens : TreeValue → BlockId → Entry → Bool
opens t b e = option_map_or (λ o. o.0 == b.0) (opened t e) false

-- the innermost block around a block
abbrev pub parent_block : TreeValue → BlockId → Option BlockId
parent_block t b = option_and_then (λ x. x.parent) (slice_get t.blocks b.0)

-- the innermost block around a definition of this number, or around an entry that is none
abbrev pub block_around : TreeValue → Option ℕ → Entry → Option BlockId
block_around t (Some n) e = option_and_then (λ d. d.block) (slice_get t.definitions n)
block_around t None (Symbol s) = None
block_around t None (Again s) = None
block_around t None (Menu b) = parent_block t b
block_around t None (EndMenu b) = None
block_around t None (Choice c) = option_and_then (λ x. parent_block t x.block) (slice_get t.choices c.0)
block_around t None (Comment c) = option_and_then (λ x. x.block) (slice_get t.comments c.0)

-- ---- rows
-- the number of a definition: how many come before it
abbrev pub definition_after : List Row → Entry → Option ℕ
definition_after earlier e = if is_definition e then Some (count_by (λ r. is_definition r.entry) earlier) else None

-- the row that opens a block, of several the nearest
abbrev pub row_that_opens : TreeValue → List Row → BlockId → Option ℕ
row_that_opens t earlier b = option_map (λ r. r.id) (find (λ r. opens t b r.entry) earlier)

-- The parent: the row of the innermost block around that has one, which is a menu or a choice since no row opens an `if`;
-- 0 at the top.
abbrev pub parent_after : TreeValue → List Row → Option BlockId → ℕ
parent_after t earlier block =
    unwrap_or (slice_get (filter_map (row_that_opens t earlier) (blocks_outwards t.blocks MOST_OPEN_BLOCKS block)) 0) 0

-- a row after those before it
pub record IsRowAfter (t : TreeValue) (earlier : List Row) (r : Row) : Type 0 where
  pub id : r.id ≡ suc (length earlier)
  pub definition : r.definition ≡ definition_after earlier r.entry
  pub parent : r.parent ≡ parent_after t earlier (block_around t r.definition r.entry)
  pub parent_before : r.parent < r.id

abbrev pub AreRowsBack : TreeValue → List Row → Type 0
AreRowsBack t [] = Unit {0}
AreRowsBack t (r ∷ earlier) = IsRowAfter t earlier r × AreRowsBack t earlier

-- The rows of a tree: its entries but the ends of menus, each once and in their order, and each row is one after those
-- before it.
pub record AreRowsOf (t : TreeValue) (rows : List Row) : Type 0 where
  pub entries : map (λ r. r.entry) rows ≡ filter has_row t.entries
  pub each : AreRowsBack t (reverse rows)
