-- Which texts are numerals of a type: this project's own, after the types of kconfig-language.rst.
use Rattle.std.specs.Prelude.{ℕ, ◌-◌, ◌^◌, ◌&&◌, ◌||◌, List, Option, Some, None, if◌then◌else◌, nat_le, length, take, drop, option_map, codes, ℤ, pos, neg_ℤ}
use Rattle.std.specs.Char.{is_ascii_digit, is_ascii_hexdigit}
use Rattle.std.specs.List.{list_all}
use Rattle.std.specs.Str.{bytes_eq}
use Rattle.std.specs.Str.Parse.{digits_value}
use Rattle.kc_statement.specs.declared.symbol_type.SymbolType.{SymbolType}
use Rattle.kc_statement.specs.declared.symbol_type.SymbolType.TheVariants as kind

-- the number, where it is no greater than a bound
abbrev pub up_to : ℕ → ℕ → Option ℕ
up_to bound n = if nat_le n bound then Some n else None

-- one or more decimal digits, that spell a number up to a bound
abbrev pub digits_up_to : ℕ → List ℕ → Option ℕ
digits_up_to bound bs =
    if list_all is_ascii_digit bs && nat_le 1 (length bs) then up_to bound (digits_value 10 bs) else None

-- one or more hex digits, up to 2^64 - 1
abbrev pub hex_digits : List ℕ → Option ℕ
hex_digits bs =
    if list_all is_ascii_hexdigit bs && nat_le 1 (length bs) then up_to (2 ^ 64 - 1) (digits_value 16 bs) else None

-- perhaps a `-`, and decimal digits: from -2^63 to 2^63 - 1
abbrev pub int_numeral : List ℕ → Option ℤ
int_numeral bs =
    if bytes_eq (take 1 bs) (codes "-") then option_map (λ n. neg_ℤ (pos n)) (digits_up_to (2 ^ 63) (drop 1 bs))
    else option_map pos (digits_up_to (2 ^ 63 - 1) bs)

-- perhaps a `0x` or a `0X`, and hex digits
abbrev pub hex_numeral : List ℕ → Option ℤ
hex_numeral bs =
    if bytes_eq (take 2 bs) (codes "0x") || bytes_eq (take 2 bs) (codes "0X") then option_map pos (hex_digits (drop 2 bs))
    else option_map pos (hex_digits bs)

-- a text has a number by the type of its symbol, int or hex
abbrev pub numeral_in : SymbolType → List ℕ → Option ℤ
numeral_in kind.Int bs = int_numeral bs
numeral_in kind.Hex bs = hex_numeral bs
numeral_in kind.Bool bs = None
numeral_in kind.Tristate bs = None
numeral_in kind.String bs = None
