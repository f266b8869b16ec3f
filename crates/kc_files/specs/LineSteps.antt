-- What a line of a `.config` gives a tree, a step at a time: this project's own.
use Rattle.std.specs.Prelude.{ℕ, ◌<◌, List, Option, map}
use Rattle.std.specs.Option.{option_map_or}
use Rattle.kc_statement.specs.declared.id.SymId.{SymId}
use Rattle.kc_statement.specs.declared.symbol_type.SymbolType.{SymbolType}
use Rattle.kc_outline.specs.TreeValue.{TreeValue, symbol_named}
use Rattle.kc_tree.specs.declared.user_value.UserVal.{UserVal}
use Rattle.kc_files.specs.declared.warning.WarningKind.{WarningKind}
use Rattle.kc_files.specs.declared.warning.WarningKind.TheVariants as warning
use Rattle.kc_files.specs.declared.line_form.LineForm.{LineForm}
use Rattle.kc_files.specs.declared.line_form.LineForm.TheVariants as form
use Rattle.kc_files.specs.declared.line_reading.Reading.{Reading}
use Rattle.kc_files.specs.declared.line_reading.Reading.TheVariants as reading
use Rattle.kc_tree.specs.Fits.{type_of}
use Rattle.kc_files.specs.ConfigLines.{trimmed, lines_in}
use Rattle.kc_files.specs.ReadingSteps.{line_form, value_given, no_given}
use Rattle.kc_files.specs.LineReading.{bad_value, IsAssignFor}

-- ---- a line
-- a symbol is given a value, or none with a warning
abbrev pub said : SymId → Option UserVal → WarningKind → Reading
said s given bad = option_map_or (λ v. reading.Usable (record { symbol = s; value = v })) given (reading.Warned bad)

abbrev pub named_reading : TreeValue → List ℕ → (SymbolType → Option UserVal) → (SymbolType → WarningKind) → Reading
named_reading t name given bad =
    option_map_or (λ s. said s (given (type_of t s)) (bad (type_of t s))) (symbol_named t name) (reading.Warned warning.UndefinedSymbol)

abbrev pub assigned_reading : TreeValue → List ℕ → List ℕ → Reading
assigned_reading t name value = named_reading t name (value_given value) bad_value

abbrev pub unset_reading : TreeValue → List ℕ → Reading
unset_reading t name = named_reading t name no_given (λ k. warning.BadValue)

abbrev pub form_reading : TreeValue → LineForm → Reading
form_reading t (form.Assigned name value) = assigned_reading t name value
form_reading t (form.Unset name) = unset_reading t name
form_reading t form.Nothing = reading.Nothing
form_reading t form.Malformed = reading.Warned warning.Malformed

abbrev pub reading_of : TreeValue → List ℕ → List ℕ → Reading
reading_of t prefix line = form_reading t (line_form prefix (trimmed line))

-- the symbol of a usable line is one of so many
abbrev pub IsInside : ℕ → Reading → Type 0
IsInside symbols (reading.Usable a) = a.symbol.0 < symbols
IsInside symbols (reading.Warned w) = Unit {0}
IsInside symbols reading.Nothing = Unit {0}

-- the assignment of a usable line is one for the tree
abbrev pub IsReadingFor : TreeValue → Reading → Type 0
IsReadingFor t (reading.Usable a) = IsAssignFor t a
IsReadingFor t (reading.Warned w) = Unit {0}
IsReadingFor t reading.Nothing = Unit {0}

abbrev pub readings_in : TreeValue → List ℕ → List ℕ → List Reading
readings_in t prefix text = map (reading_of t prefix) (lines_in text)
