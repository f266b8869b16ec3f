-- A block and those around it: this project's own, after kconfig-language.rst, "Menu structure".
use Rattle.std.specs.Prelude.{ℕ, zero, suc, List, [], ◌∷◌, Option, Some, None, slice_get}
use Rattle.std.specs.Option.{option_map_or}
use Rattle.kc_outline.specs.declared.id.BlockId.{BlockId}
use Rattle.kc_outline.specs.TreeValue.{BlockValue}

-- a block and all blocks around it, from the innermost outwards, as many as may be nested
abbrev pub blocks_outwards : List BlockValue → ℕ → Option BlockId → List BlockId
blocks_outwards blocks zero id = []
blocks_outwards blocks (suc n) None = []
blocks_outwards blocks (suc n) (Some id) =
    option_map_or (λ b. id ∷ blocks_outwards blocks n b.parent) (slice_get blocks id.0) []
