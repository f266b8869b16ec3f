-- The numbers that a hex spells have 64 bits at most.
use Rattle.std.proofs.Common.{◌≡◌, ◌-◌, ◌^◌, ℕ, Bool, true, false, ◌&&◌, ◌||◌, List, None, Some, length, take, drop, if◌then◌else◌, option_map, unwrap_or, refl, arith}
use Rattle.std.specs.Prelude.{nat_le, codes, pos}
use Rattle.std.specs.Char.{is_ascii_hexdigit}
use Rattle.std.specs.List.{list_all}
use Rattle.std.specs.Str.{bytes_eq}
use Rattle.std.specs.Str.Parse.{digits_value}
use Rattle.std.proofs.lemmas.Bool.Decides.{nat_tests}
use Rattle.kc_statement.specs.declared.symbol_type.SymbolType.{SymbolType}
use Rattle.kc_statement.specs.declared.symbol_type.SymbolType.TheVariants as kind
use Rattle.kc_statement.specs.Numerals.{up_to, hex_digits}
use Rattle.kc_value.specs.BoundsRange.{IsHexNumber, IsSmall}
use Rattle.kc_value.specs.TextRule.{number_or_zero}

up_to-small : (n : ℕ) → IsHexNumber (unwrap_or (option_map pos (up_to (2 ^ 64 - 1) n)) (pos 0))
up_to-small n = go (nat_le n (2 ^ 64 - 1)) refl
  where
    go : (b : Bool) → nat_le n (2 ^ 64 - 1) ≡ b → IsHexNumber (unwrap_or (option_map pos (if b then Some n else None)) (pos 0))
    go true t = grind (arith, nat_tests)
    go false t = omega arith

hex_digits-small : (bs : List ℕ) → IsHexNumber (unwrap_or (option_map pos (hex_digits bs)) (pos 0))
hex_digits-small bs = go (list_all is_ascii_hexdigit bs && nat_le 1 (length bs))
  where
    go : (b : Bool) → IsHexNumber (unwrap_or (option_map pos (if b then up_to (2 ^ 64 - 1) (digits_value 16 bs) else None)) (pos 0))
    go true = up_to-small (digits_value 16 bs)
    go false = omega arith

hex-small : (bs : List ℕ) → IsHexNumber (number_or_zero kind.Hex bs)
hex-small bs = go (bytes_eq (take 2 bs) (codes "0x") || bytes_eq (take 2 bs) (codes "0X"))
  where
    go : (b : Bool) → IsHexNumber (unwrap_or (if b then option_map pos (hex_digits (drop 2 bs)) else option_map pos (hex_digits bs)) (pos 0))
    go true = hex_digits-small (drop 2 bs)
    go false = hex_digits-small bs

pub small : (k : SymbolType) (bs : List ℕ) → IsSmall k (number_or_zero k bs)
small kind.Hex bs = hex-small bs
small kind.Bool bs = tt
small kind.Tristate bs = tt
small kind.String bs = tt
small kind.Int bs = tt
