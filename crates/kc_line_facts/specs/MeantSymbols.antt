-- Which symbol a name in a line may have been meant as: this project's own, by docs/ERRORS.md, "Findings of `check`".
use Rattle.std.specs.Prelude.{◌≡◌, ℕ, Bool, true, false, ◌==◌, List, Option, Some, None, if◌then◌else◌, length, nat_lt, option_and_then, option_map, slice_get, slice_index_or}
use Rattle.std.specs.Option.{option_map_or}
use Rattle.kc_text.specs.LineValue.{LineValue}
use Rattle.kc_statement.specs.declared.id.SymId.{SymId}
use Rattle.kc_outline.specs.TreeValue as tree
use Rattle.kc_outline.specs.TreeValue.{TreeValue, symbol_named}
use Rattle.kc_names.specs.BareNames.{bare_name, bare_word}
use Rattle.kc_line_facts.specs.DoubtfulNames.{name_of}
use Rattle.kc_names.specs.LongWords.{differ_in_long_word}
use Rattle.kc_names.specs.NearName.{IsNearestAt}
use Rattle.kc_line_facts.specs.declared.meant_symbols.Sought.{Sought}
use Rattle.kc_line_facts.specs.declared.meant_symbols.Sought.TheVariants.{Nearest, Nothing, Symbol}
use Rattle.kc_line_facts.specs.declared.name_readings.NameReading.{NameReading}
use Rattle.kc_line_facts.specs.declared.name_readings.NameReading.TheVariants as reading
use Rattle.kc_line_facts.specs.declared.undefined_names.DoubtfulName.{DoubtfulName}

-- ---- how it is decided
-- no line defines the name: all else are the names of symbols that are conditions
abbrev pub is_undefined : NameReading → Bool
is_undefined reading.No = true
is_undefined reading.Text = true
is_undefined reading.Default = true
is_undefined reading.Select = true
is_undefined reading.Imply = true
is_undefined (reading.Condition kind) = false

-- the symbol whose name is what comes after the prefix
abbrev pub bare_symbol : TreeValue → List ℕ → List ℕ → Option SymId
bare_symbol t prefix name = option_and_then (symbol_named t) (bare_word prefix name)

-- a symbol, unless the line belongs to it
abbrev pub unless_owner : Option SymId → SymId → Sought
unless_owner None s = Symbol s
unless_owner (Some o) s = if o.0 == s.0 then Nothing else Symbol s

-- Of a name that no line defines: where what comes after the prefix is the name of a symbol, that symbol; else, where all
-- lines that use the name are one line of a file, the nearest.
abbrev pub sought_for : List LineValue → TreeValue → List ℕ → DoubtfulName → Sought
sought_for lines t prefix d =
    if is_undefined d.used.reading
    then option_map_or (unless_owner d.used.owner) (bare_symbol t prefix (name_of lines d.used)) (if d.is_in_one_line then Nearest else Nothing)
    else Nothing

abbrev pub is_nearest : Sought → Bool
is_nearest Nothing = false
is_nearest (Symbol s) = false
is_nearest Nearest = true

-- ---- the nearest symbol
-- the symbol of a number, if the tree has it
abbrev pub symbol_of : TreeValue → ℕ → Option SymId
symbol_of t k = if nat_lt k (length t.symbols) then Some (record { 0 = k }) else None

-- a symbol, if its name differs from another in a long word
abbrev pub if_long : TreeValue → List ℕ → SymId → Option SymId
if_long t name s = if differ_in_long_word name (tree.name_of t s) then Some s else None

abbrev pub symbol_if_long : TreeValue → List ℕ → Option ℕ → Option SymId
symbol_if_long t name number = option_and_then (if_long t name) (option_and_then (symbol_of t) number)

-- of many names the nearest one, if it differs in a long word
abbrev pub IsNearestSymbol : List (List ℕ) → TreeValue → Option (List ℕ) → List ℕ → Option SymId → Type 0
IsNearestSymbol names t excepted name m = (number : Option ℕ) × IsNearestAt names excepted name number × (m ≡ symbol_if_long t name number)

-- ---- what a name is meant as
-- the name of the symbol that a line belongs to, which is not meant
abbrev pub owner_name : TreeValue → Option SymId → Option (List ℕ)
owner_name t owner = option_map (tree.name_of t) owner

abbrev pub IsSoughtAs : List (List ℕ) → TreeValue → Option (List ℕ) → List ℕ → Sought → Option SymId → Type 0
IsSoughtAs names t excepted name Nothing m = m ≡ None
IsSoughtAs names t excepted name (Symbol s) m = m ≡ Some s
IsSoughtAs names t excepted name Nearest m = IsNearestSymbol names t excepted name m

-- the symbol that a name is meant as, if there is one, where these are the names of all symbols
abbrev pub IsMeantAs : List (List ℕ) → List LineValue → TreeValue → List ℕ → DoubtfulName → Option SymId → Type 0
IsMeantAs names lines t prefix d m =
    IsSoughtAs names t (owner_name t d.used.owner) (bare_name prefix (name_of lines d.used)) (sought_for lines t prefix d) m

-- the same of each of many names
pub record AreMeant (names : List (List ℕ)) (lines : List LineValue) (t : TreeValue) (prefix : List ℕ) (ds : List DoubtfulName) (ms : List (Option SymId)) : Type 0 where
  pub sized : length ms ≡ length ds
  pub each : (k : ℕ) (d : DoubtfulName) → slice_get ds k ≡ Some d → IsMeantAs names lines t prefix d (slice_index_or ms k None)
