-- The blocks around, one after the other.
use Rattle.std.proofs.Common.{◌≡◌, ℕ, zero, suc, List, [], ◌∷◌, Option, Some, None, refl, ap, slice_get}
use Rattle.std.specs.Prelude.{option_and_then}
use Rattle.kc_outline.specs.declared.id.BlockId.{BlockId}
use Rattle.kc_statement.specs.declared.tri.Tri.{Tri}
use Rattle.kc_statement.specs.declared.tri.Tri.TheVariants.{No, Module, Yes}
use Rattle.kc_statement.specs.Tristate.{least}
use Rattle.kc_outline.specs.Nested.{AreNested}
use Rattle.kc_outline.specs.TreeValue.{TreeValue, BlockValue, blocks_from, blocks_around}
use Rattle.kc_value.specs.Assignment.{Assignment}
use Rattle.kc_value.specs.Conditions.{blocks_depend, blocks_visible}
use Rattle.kc_value.specs.ExprValue.{conditions_value}

pub least_least : (x y z : Tri) → least (least x y) z ≡ least x (least y z)
least_least No y z = refl
least_least Module No z = refl
least_least Module Module No = refl
least_least Module Module Module = refl
least_least Module Module Yes = refl
least_least Module Yes z = refl
least_least Yes y z = refl

-- the innermost block, and those around it
pub blocks_from-next : (blocks : List BlockValue) (n m : ℕ) (id : Option BlockId) (b : BlockValue) → n ≡ suc m
    → option_and_then (λ (i : BlockId). slice_get blocks i.0) id ≡ Some b → blocks_from blocks n id ≡ b ∷ blocks_from blocks m b.parent
blocks_from-next blocks n m None b more is = cc
blocks_from-next blocks n m (Some id) b more is = rw (more, is)

-- no block at a place
pub blocks_from-none : (blocks : List BlockValue) (n : ℕ) (id : Option BlockId) → option_and_then (λ (i : BlockId). slice_get blocks i.0) id ≡ None → blocks_from blocks n id ≡ []
blocks_from-none blocks zero id none = refl
blocks_from-none blocks (suc n) None none = refl
blocks_from-none blocks (suc n) (Some id) none = rw none

-- what a block gives is what its own lines give, and what those around it give
pub depends_here : (t : TreeValue) (a : Assignment) (b : BlockId) (x : BlockValue) → AreNested t → slice_get t.blocks b.0 ≡ Some x
    → blocks_depend t a (blocks_around t (Some b)) ≡ least (conditions_value t a x.depends) (blocks_depend t a (blocks_around t x.parent))
depends_here t a b x nested at = ap (blocks_depend t a) (nested.around b x at)

pub visible_here : (t : TreeValue) (a : Assignment) (b : BlockId) (x : BlockValue) → AreNested t → slice_get t.blocks b.0 ≡ Some x
    → blocks_visible t a (blocks_around t (Some b)) ≡ least (conditions_value t a x.visible) (blocks_visible t a (blocks_around t x.parent))
visible_here t a b x nested at = ap (blocks_visible t a) (nested.around b x at)
