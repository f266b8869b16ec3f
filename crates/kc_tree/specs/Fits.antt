-- The type of a symbol, and which user values it takes: kconfig-language.rst, "Menu attributes".
use Rattle.std.specs.Prelude.{Bool, true, false, not, ◌&&◌, is_some, slice_get}
use Rattle.std.specs.Option.{option_map_or}
use Rattle.kc_statement.specs.declared.id.SymId.{SymId}
use Rattle.kc_statement.specs.declared.tri.Tri.TheVariants.{No, Module, Yes}
use Rattle.kc_statement.specs.declared.symbol_type.SymbolType.{SymbolType}
use Rattle.kc_statement.specs.declared.symbol_type.SymbolType.TheVariants as kind
use Rattle.kc_tree.specs.declared.user_value.UserVal.{UserVal}
use Rattle.kc_tree.specs.declared.user_value.UserVal.TheVariants.{Tri, Text}
use Rattle.kc_statement.specs.Numerals.{numeral_in}
use Rattle.kc_outline.specs.TreeValue.{TreeValue, kind_of}

-- the declared type of a symbol, bool for a number that the tree doesn't have
abbrev pub type_of : TreeValue → SymId → SymbolType
type_of t s = option_map_or kind_of (slice_get t.symbols s.0) kind.Bool

-- a bool takes n and y, a tristate m too, a string all texts, an int and a hex the numerals of their types
abbrev pub fits_type : SymbolType → UserVal → Bool
fits_type kind.Bool (Tri No) = true
fits_type kind.Bool (Tri Module) = false
fits_type kind.Bool (Tri Yes) = true
fits_type kind.Bool (Text w) = false
fits_type kind.Tristate (Tri v) = true
fits_type kind.Tristate (Text w) = false
fits_type kind.String (Tri v) = false
fits_type kind.String (Text w) = true
fits_type kind.Int (Tri v) = false
fits_type kind.Int (Text w) = is_some (numeral_in kind.Int w)
fits_type kind.Hex (Tri v) = false
fits_type kind.Hex (Text w) = is_some (numeral_in kind.Hex w)

-- a member of a choice takes none: its choice has a chosen member in place of them
abbrev pub fits : TreeValue → SymId → UserVal → Bool
fits t s v = option_map_or (λ x. not (is_some x.choice) && fits_type (kind_of x) v) (slice_get t.symbols s.0) false
