-- What the value of a line gives a symbol of a type: this project's own.
use Rattle.std.specs.Prelude.{◌≡◌, ℕ, true, List, codes}
use Rattle.kc_statement.specs.declared.tri.Tri.{Tri}
use Rattle.kc_statement.specs.declared.tri.Tri.TheVariants.{No, Module, Yes}
use Rattle.kc_statement.specs.declared.symbol_type.SymbolType.{SymbolType}
use Rattle.kc_statement.specs.declared.symbol_type.SymbolType.TheVariants as kind
use Rattle.kc_tree.specs.declared.user_value.UserVal.{UserVal}
use Rattle.kc_tree.specs.declared.user_value.UserVal.TheVariants.{Tri as TriVal, Text}
use Rattle.kc_tree.specs.Fits.{fits_type}
use Rattle.kc_files.specs.Unquoting.{IsQuoted}

abbrev pub letter : Tri → List ℕ
letter No = codes "n"
letter Module = codes "m"
letter Yes = codes "y"

-- a tristate value is spelt by its letter, a string in quotes, a number by its digits
abbrev pub IsSpelt : SymbolType → UserVal → List ℕ → Type 0
IsSpelt k (TriVal v) w = w ≡ letter v
IsSpelt kind.String (Text v) w = IsQuoted w v
IsSpelt kind.Bool (Text v) w = w ≡ v
IsSpelt kind.Tristate (Text v) w = w ≡ v
IsSpelt kind.Int (Text v) w = w ≡ v
IsSpelt kind.Hex (Text v) w = w ≡ v

-- the value is one of the type, and spelt so
abbrev pub Gives : List ℕ → SymbolType → UserVal → Type 0
Gives w k v = (fits_type k v ≡ true) × IsSpelt k v w

-- a symbol that is not set has the value n, where its type has that
abbrev pub GivesNo : SymbolType → UserVal → Type 0
GivesNo k v = (fits_type k v ≡ true) × (v ≡ TriVal No)
