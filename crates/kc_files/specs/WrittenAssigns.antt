-- The text of assignments, each as the line that gives it: this project's own.
use Rattle.std.specs.Prelude.{◌≡◌, ◌<◌, true, false, ℕ, List, [], ◌∷◌, length}
use Rattle.std.specs.List.{flat_map, list_any}
use Rattle.kc_outline.specs.TreeValue.{TreeValue, name_of}
use Rattle.kc_tree.specs.Fits.{fits_type, type_of}
use Rattle.kc_files.specs.declared.assign.Assign.{Assign}
use Rattle.kc_files.specs.ConfigReading.{names_symbol}
use Rattle.kc_files.specs.ConfigText.{symbol_line}
use Rattle.kc_files.specs.LineReading.{IsUnfed}

abbrev pub assign_line : TreeValue → List ℕ → Assign → List ℕ
assign_line t prefix a = symbol_line prefix (name_of t a.symbol) (type_of t a.symbol) a.value

abbrev pub assigns_text : TreeValue → List ℕ → List Assign → List ℕ
assigns_text t prefix assigns = flat_map (assign_line t prefix) assigns

-- an assignment that a line can give
pub record IsWritable (t : TreeValue) (a : Assign) : Type 0 where
  pub inside : a.symbol.0 < length t.symbols
  pub typed : fits_type (type_of t a.symbol) a.value ≡ true
  pub unfed : IsUnfed a

-- no two assignments are to the same symbol
abbrev pub AreApart : List Assign → Type 0
AreApart [] = Unit {0}
AreApart (a ∷ later) = (list_any (names_symbol a.symbol) later ≡ false) × AreApart later
