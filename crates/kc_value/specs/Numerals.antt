-- Which texts count as numbers in a comparison: this project's own, after Kconfiglib's comparisons.
use Rattle.std.specs.Prelude.{ℕ, ◌-◌, ◌^◌, ◌==◌, Bool, true, false, not, List, [], ◌∷◌, Option, None, if◌then◌else◌, take, drop, option_map, codes, ℤ, pos, neg_ℤ}
use Rattle.std.specs.Str.{bytes_eq}
use Rattle.kc_statement.specs.Numerals.{digits_up_to, hex_digits}

abbrev pub has_no_leading_zero : List ℕ → Bool
has_no_leading_zero [] = false
has_no_leading_zero (b ∷ []) = true
has_no_leading_zero (b ∷ c ∷ rest) = not (b == 48)

-- decimal digits, with no leading zero but 0 itself, that spell a number up to a bound
abbrev pub decimal_up_to : ℕ → List ℕ → Option ℕ
decimal_up_to bound bs = if has_no_leading_zero bs then digits_up_to bound bs else None

-- the number of a text without a type, if it counts as one: after a `-` down to -2^63, after a `0x` in hex digits, and
-- else in decimal digits, up to 2^64 - 1
abbrev pub number_of_text : List ℕ → Option ℤ
number_of_text bs =
    if bytes_eq (take 1 bs) (codes "-") then option_map (λ n. neg_ℤ (pos n)) (decimal_up_to (2 ^ 63) (drop 1 bs))
    else (if bytes_eq (take 2 bs) (codes "0x") then option_map pos (hex_digits (drop 2 bs))
    else option_map pos (decimal_up_to (2 ^ 64 - 1) bs))
