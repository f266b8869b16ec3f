-- Kinds of types: kconfig-language.rst, "Menu attributes".
use Rattle.std.specs.Prelude.{Bool, true, false}
use Rattle.kc_statement.specs.declared.symbol_type.SymbolType.{SymbolType}
use Rattle.kc_statement.specs.declared.symbol_type.SymbolType.TheVariants as kind

-- whether n, m and y are its values
abbrev pub is_tri_type : SymbolType → Bool
is_tri_type kind.Bool = true
is_tri_type kind.Tristate = true
is_tri_type kind.String = false
is_tri_type kind.Int = false
is_tri_type kind.Hex = false
