-- Which numbers the numerals of a type spell: this project's own.
use Rattle.std.specs.Prelude.{◌<◌, ◌^◌, Option, Some, None, ℤ, pos, negsuc}
use Rattle.kc_statement.specs.declared.symbol_type.SymbolType.{SymbolType}
use Rattle.kc_statement.specs.declared.symbol_type.SymbolType.TheVariants as kind
use Rattle.kc_value.specs.declared.bounds.Bounds.{Bounds}

-- a hex is no less than 0 and has 64 bits at most
abbrev pub IsHexNumber : ℤ → Type 0
IsHexNumber (pos n) = n < 2 ^ 64
IsHexNumber (negsuc n) = ⊥

abbrev pub IsSmall : SymbolType → ℤ → Type 0
IsSmall kind.Hex n = IsHexNumber n
IsSmall _ n = Unit {0}

abbrev pub AreSmall : SymbolType → Option Bounds → Type 0
AreSmall k None = Unit {0}
AreSmall k (Some b) = IsSmall k b.low × IsSmall k b.high
