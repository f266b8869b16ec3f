-- The blocks around a place, one after the other.
use Rattle.std.proofs.Common.{◌≡◌, ℕ, zero, suc, List, [], ◌∷◌, Option, Some, None, refl, slice_get}
use Rattle.std.specs.Prelude.{option_and_then}
use Rattle.kc_outline.specs.declared.id.BlockId.{BlockId}
use Rattle.kc_outline.specs.TreeValue.{BlockValue, blocks_from}

-- a block, and those around it
pub blocks_from-next : (blocks : List BlockValue) (n m : ℕ) (id : Option BlockId) (b : BlockValue) → n ≡ suc m
    → option_and_then (λ (i : BlockId). slice_get blocks i.0) id ≡ Some b → blocks_from blocks n id ≡ b ∷ blocks_from blocks m b.parent
blocks_from-next blocks n m None b more is = cc
blocks_from-next blocks n m (Some id) b more is = rw (more, is)

-- no block at a place
pub blocks_from-none : (blocks : List BlockValue) (n : ℕ) (id : Option BlockId) → option_and_then (λ (i : BlockId). slice_get blocks i.0) id ≡ None → blocks_from blocks n id ≡ []
blocks_from-none blocks zero id none = refl
blocks_from-none blocks (suc n) None none = refl
blocks_from-none blocks (suc n) (Some id) none = rw none
