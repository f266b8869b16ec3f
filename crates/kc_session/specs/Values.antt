-- This project's own command stream: which values a text spells, by the type of a symbol.
use Rattle.std.specs.Prelude.{ℕ, List, Option, Some, None, is_some, option_map, codes, if◌then◌else◌}
use Rattle.std.specs.Str.{bytes_eq}
use Rattle.kc_statement.specs.declared.symbol_type.SymbolType.{SymbolType}
use Rattle.kc_statement.specs.declared.symbol_type.SymbolType.TheVariants.{Bool as BoolType, Tristate, String as StringType, Int, Hex}
use Rattle.kc_statement.specs.declared.tri.Tri.{Tri}
use Rattle.kc_statement.specs.declared.tri.Tri.TheVariants.{No, Module, Yes}
use Rattle.kc_tree.specs.declared.user_value.UserVal.{UserVal}
use Rattle.kc_tree.specs.declared.user_value.UserVal.TheVariants.{Tri as TriVal, Text}
use Rattle.kc_statement.specs.Numerals.{numeral_in}

-- the user value of a bool that a text spells
abbrev pub bool_of : List ℕ → Option Tri
bool_of text = if bytes_eq text (codes "n") then Some No else (if bytes_eq text (codes "y") then Some Yes else None)

-- that of a tristate
abbrev pub tristate_of : List ℕ → Option Tri
tristate_of text = if bytes_eq text (codes "m") then Some Module else bool_of text

-- that of an int or a hex: a numeral of the type, as it is spelt
abbrev pub number_of : SymbolType → List ℕ → Option UserVal
number_of k text = if is_some (numeral_in k text) then Some (Text text) else None

-- that of a symbol of this type; a string takes each text as it is
abbrev pub value_of : SymbolType → List ℕ → Option UserVal
value_of BoolType text = option_map TriVal (bool_of text)
value_of Tristate text = option_map TriVal (tristate_of text)
value_of StringType text = Some (Text text)
value_of Int text = number_of Int text
value_of Hex text = number_of Hex text
