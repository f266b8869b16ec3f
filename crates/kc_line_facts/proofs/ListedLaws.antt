-- Which names are listed nowhere, one name after the other.
use Rattle.std.proofs.Common.{◌≡◌, ◌∙◌, ◌&&◌, ◌||◌, Bool, true, false, ap, not, refl}

-- what is neither of two
pub and_neither : (c a b : Bool) → ((c && not a) && not b) ≡ (c && not (a || b))
and_neither true true b = refl
and_neither true false b = refl
and_neither false a b = refl
