-- What a line of a `.config` gives a tree: this project's own.
use Rattle.std.specs.Prelude.{◌≡◌, ◌⊎◌, ◌<◌, ℕ, Bool, true, false, List, length, Some, None}
use Rattle.std.specs.List.{list_any}
use Rattle.kc_statement.specs.declared.id.SymId.{SymId}
use Rattle.kc_statement.specs.declared.symbol_type.SymbolType.{SymbolType}
use Rattle.kc_statement.specs.declared.symbol_type.SymbolType.TheVariants as kind
use Rattle.kc_outline.specs.TreeValue.{TreeValue, symbol_named}
use Rattle.kc_tree.specs.declared.user_value.UserVal.{UserVal}
use Rattle.kc_tree.specs.declared.user_value.UserVal.TheVariants.{Tri, Text}
use Rattle.kc_tree.specs.Fits.{fits_type, type_of}
use Rattle.kc_files.specs.declared.assign.Assign.{Assign}
use Rattle.kc_files.specs.declared.warning.WarningKind.{WarningKind}
use Rattle.kc_files.specs.declared.warning.WarningKind.TheVariants as warning
use Rattle.kc_files.specs.declared.line_form.LineForm.{LineForm}
use Rattle.kc_files.specs.declared.line_form.LineForm.TheVariants as form
use Rattle.kc_files.specs.declared.line_reading.Reading.{Reading}
use Rattle.kc_files.specs.declared.line_reading.Reading.TheVariants as reading
use Rattle.kc_files.specs.ConfigLines.{is_feed, trimmed}
use Rattle.kc_files.specs.LineForm.{HasForm}
use Rattle.kc_files.specs.ValueForm.{Gives, GivesNo}

-- the number that is printed
abbrev pub warning_number : WarningKind → ℕ
warning_number warning.UndefinedSymbol = 1
warning_number warning.BadValue = 2
warning_number warning.BadString = 3
warning_number warning.Malformed = 4
warning_number warning.Repeated = 5

-- an assignment for a tree: to a symbol of it, with a value of the symbol's type
abbrev pub IsAssignFor : TreeValue → Assign → Type 0
IsAssignFor t a = (a.symbol.0 < length t.symbols) × (fits_type (type_of t a.symbol) a.value ≡ true)

-- a value with a line feed, which would end its line
abbrev pub has_feed : UserVal → Bool
has_feed (Tri v) = false
has_feed (Text w) = list_any is_feed w

-- the value of an assignment, if it is a text, has no line feed
abbrev pub IsUnfed : Assign → Type 0
IsUnfed a = has_feed a.value ≡ false

-- the warning of a value that is none of a type
abbrev pub bad_value : SymbolType → WarningKind
bad_value kind.String = warning.BadString
bad_value kind.Bool = warning.BadValue
bad_value kind.Tristate = warning.BadValue
bad_value kind.Int = warning.BadValue
bad_value kind.Hex = warning.BadValue

-- What a line with a name gives, where `gives` says which values it gives a type: the symbol of the name has one of
-- these; else there is no such symbol, or there is no such value, with a warning that the type decides.
abbrev pub Says : TreeValue → List ℕ → (SymbolType → UserVal → Type 0) → (SymbolType → WarningKind) → Reading → Type 0
Says t name gives bad (reading.Usable a) = (symbol_named t name ≡ Some a.symbol) × gives (type_of t a.symbol) a.value
Says t name gives bad (reading.Warned w) =
    ((symbol_named t name ≡ None) × (w ≡ warning.UndefinedSymbol))
    ⊎ ((s : SymId) × (symbol_named t name ≡ Some s) × ((v : UserVal) → gives (type_of t s) v → ⊥) × (w ≡ bad (type_of t s)))
Says t name gives bad reading.Nothing = ⊥

abbrev pub IsMeant : TreeValue → LineForm → Reading → Type 0
IsMeant t (form.Assigned name value) r = Says t name (Gives value) bad_value r
IsMeant t (form.Unset name) r = Says t name GivesNo (λ k. warning.BadValue) r
IsMeant t form.Nothing r = r ≡ reading.Nothing
IsMeant t form.Malformed r = r ≡ reading.Warned warning.Malformed

-- what a line gives, by its form without the blanks at its end
abbrev pub HasReading : TreeValue → List ℕ → List ℕ → Reading → Type 0
HasReading t prefix line r = (f : LineForm) × HasForm prefix (trimmed line) f × IsMeant t f r
