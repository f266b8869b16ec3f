-- A word of three bytes or more is none of those that name no symbol.
use Rattle.std.proofs.Common.{◌≡◌, ◌<◌, ℕ, Bool, true, false, ◌&&◌, ◌||◌, List, [], ◌∷◌, length, refl, arith}
use Rattle.kc_statement.specs.Names.{is_reserved}

and_no : (b : Bool) → (b && false) ≡ false
and_no true = refl
and_no false = refl

and_and_no : (a b : Bool) → (a && (b && false)) ≡ false
and_and_no true b = and_no b
and_and_no false b = refl

neither : (a b : Bool) → a ≡ false → b ≡ false → (a || b) ≡ false
neither true b h k = cc
neither false b h k = k

pub long_not_reserved : (w : List ℕ) → 2 < length w → is_reserved w ≡ false
long_not_reserved [] long = absurd (omega (arith, long))
long_not_reserved (a ∷ []) long = absurd (omega (arith, long))
long_not_reserved (a ∷ b ∷ []) long = absurd (omega (arith, long))
long_not_reserved (a ∷ b ∷ c ∷ rest) long =
    neither _ _ (neither _ _ (neither _ _ (and_no _) (and_no _)) (and_no _)) (and_and_no _ _)
