-- What names mean: those that lines define, and those that are passed in (kconfig-macro-language.rst, "Variables").
use Rattle.std.specs.Prelude.{ℕ, List, [], Option, Some, None, unwrap_or}
use Rattle.std.specs.Str.{bytes_eq}
use Rattle.std.specs.Map.{lookup}
use Rattle.kc_text.specs.declared.variables.Value.{Value}
use Rattle.kc_text.specs.declared.variables.Value.TheVariants.{Simple}

-- what the names mean that lines have defined so far: a text that each use expands, or one that is taken verbatim
abbrev pub Names : Type 0
Names = List ℕ → Option Value

-- the texts of the names that are passed in
abbrev pub Environment : Type 0
Environment = List ℕ → Option (List ℕ)

-- what the names of entries mean
abbrev pub names_in : List (List ℕ × Value) → Names
names_in entries = λ name. lookup (bytes_eq name) entries

abbrev pub texts_in : List (List ℕ × List ℕ) → Environment
texts_in entries = λ name. lookup (bytes_eq name) entries

-- what a name means: its definition; else the text that was passed in, verbatim; else the empty text
abbrev pub meaning : Names → Environment → List ℕ → Value
meaning names outside name = elim (names name) [ Some value ↦ value | None ↦ Simple (unwrap_or (outside name) []) ]
