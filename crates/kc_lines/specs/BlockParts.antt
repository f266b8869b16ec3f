-- Which part of a tree says what all inside a block depends on: this project's own.
use Rattle.std.specs.Prelude.{ℕ, Bool, true, false, slice_get}
use Rattle.std.specs.Option.{option_map_or}
use Rattle.kc_outline.specs.declared.block.BlockKind.{BlockKind}
use Rattle.kc_outline.specs.declared.block.BlockKind.TheVariants as block_kind
use Rattle.kc_outline.specs.declared.id.BlockId.{BlockId}
use Rattle.kc_outline.specs.TreeValue.{TreeValue}
use Rattle.kc_lines.specs.declared.parts.Attribute.TheVariants as attribute
use Rattle.kc_lines.specs.declared.parts.Family.TheVariants as family
use Rattle.kc_lines.specs.declared.parts.Part.{Part}
use Rattle.kc_lines.specs.declared.parts.Part.TheVariants.{Owner, Said}

abbrev pub is_if_kind : BlockKind → Bool
is_if_kind (block_kind.Menu title) = false
is_if_kind block_kind.If = true
is_if_kind block_kind.Choice = false

abbrev pub is_if : TreeValue → BlockId → Bool
is_if t b = option_map_or (λ x. is_if_kind x.kind) (slice_get t.blocks b.0) false

-- an `if` has its expression on its own line, a menu and a choice have theirs on `depends on` lines
abbrev pub block_part : Bool → BlockId → ℕ → Part
block_part true b n = Owner family.Block b.0
block_part false b n = Said family.Block b.0 attribute.Depends n
