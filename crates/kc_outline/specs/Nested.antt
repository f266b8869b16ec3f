-- How the blocks of a tree are nested: this project's own, after kconfig-language.rst, "Menu structure".
use Rattle.std.specs.Prelude.{◌≡◌, ◌<◌, ◌∷◌, Some, slice_get}
use Rattle.kc_outline.specs.declared.id.BlockId.{BlockId}
use Rattle.kc_outline.specs.TreeValue.{TreeValue, BlockValue, blocks_around}

-- the block around a block comes before it, and the blocks around what is in a block are this one and those around it
pub record AreNested (t : TreeValue) : Type 0 where
  pub after : (b : BlockId) (x : BlockValue) (p : BlockId) → slice_get t.blocks b.0 ≡ Some x → x.parent ≡ Some p → p.0 < b.0
  pub around : (b : BlockId) (x : BlockValue) → slice_get t.blocks b.0 ≡ Some x → blocks_around t (Some b) ≡ x ∷ blocks_around t x.parent
