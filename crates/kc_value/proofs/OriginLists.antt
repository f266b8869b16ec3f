-- Where the factors of lines and of the blocks around are.
use Rattle.std.proofs.Common.{◌≡◌, ◌+◌, ℕ, zero, suc, List, [], ◌∷◌, ◌++◌, map, Option, Some, None, refl, ap, ◌∙◌, subst, slice_get, arith}
use Rattle.std.specs.List.{range_with_len}
use Rattle.std.specs.Option.{option_map_or}
use Rattle.std.specs.Prelude.{option_and_then}
use Rattle.std.proofs.lemmas.List.FromFn.{map-range_with_len_more}
use Rattle.kc_outline.specs.declared.id.BlockId.{BlockId}
use Rattle.kc_outline.specs.TreeValue.{BlockValue}
use Rattle.kc_value.specs.declared.factors.BlockLines.{BlockLines}
use Rattle.kc_value.specs.declared.factors.Lines.{Lines}
use Rattle.kc_value.specs.declared.factors.Lines.TheVariants.{Block}
use Rattle.kc_value.specs.Factors.{lines_of, origin_in, lines_at, ids_from, block_at, blocks_at}

-- the innermost block, and those around it
pub blocks_at-next : (blocks : List BlockValue) (w : BlockLines) (n m : ℕ) (next : Option BlockId) (id : BlockId) (b : BlockValue)
    → n ≡ suc m → next ≡ Some id → option_and_then (λ (i : BlockId). slice_get blocks i.0) next ≡ Some b
    → blocks_at blocks w (ids_from blocks n next) ≡ lines_at (Block id w) (lines_of w b) ++ blocks_at blocks w (ids_from blocks m b.parent)
blocks_at-next blocks w n m next id b more is at =
    let found : slice_get blocks id.0 ≡ Some b = subst (λ o. option_and_then (λ (i : BlockId). slice_get blocks i.0) o ≡ Some b) is at in
    let ids : ids_from blocks n next ≡ id ∷ ids_from blocks m b.parent = rw (more, is, found) in
    let here : block_at blocks w id ≡ lines_at (Block id w) (lines_of w b) = ap (λ o. option_map_or (λ (x : BlockValue). lines_at (Block id w) (lines_of w x)) o []) found in
    ap (λ is. blocks_at blocks w is) ids ∙ ap (λ os. os ++ blocks_at blocks w (ids_from blocks m b.parent)) here

-- no block at a place
pub ids_from-none : (blocks : List BlockValue) (n : ℕ) (next : Option BlockId) → option_and_then (λ (i : BlockId). slice_get blocks i.0) next ≡ None → ids_from blocks n next ≡ []
ids_from-none blocks zero next none = refl
ids_from-none blocks (suc n) None none = refl
ids_from-none blocks (suc n) (Some id) none = rw none

-- one line more
pub lines_at_more : (w : Lines) (n : ℕ) → map (origin_in w) (range_with_len 0 (n + 1)) ≡ map (origin_in w) (range_with_len 0 n) ++ origin_in w n ∷ []
lines_at_more w n = map-range_with_len_more (origin_in w) 0 n n (omega arith)
