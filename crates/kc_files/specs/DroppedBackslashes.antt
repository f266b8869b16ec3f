-- Lines of a `.config` that give a string a text in quotes in which a backslash is dropped: docs/FILES.md, and this
-- project's own, by docs/ERRORS.md, "Findings of `check`".
use Rattle.std.specs.Prelude.{ℕ, ◌-◌, Bool, true, false, List, ◌++◌, Option, None, codes, if◌then◌else◌, filter_map, length, option_and_then, option_map, slice_get}
use Rattle.std.specs.List.{range_with_len, slice_split}
use Rattle.kc_statement.specs.declared.id.SymId.{SymId}
use Rattle.kc_statement.specs.declared.symbol_type.SymbolType.{SymbolType}
use Rattle.kc_statement.specs.declared.symbol_type.SymbolType.TheVariants as kind
use Rattle.kc_outline.specs.TreeValue.{TreeValue, name_of}
use Rattle.kc_tree.specs.Fits.{type_of}
use Rattle.kc_files.specs.ConfigLines.{is_feed}
use Rattle.kc_files.specs.NumberedLines.{assign_of}
use Rattle.kc_files.specs.ReadingSteps.{after}
use Rattle.kc_files.specs.declared.lost_backslashes.DroppedBackslash.{DroppedBackslash}
use Rattle.kc_files.specs.declared.fragments.FragmentLine.{FragmentLine}
use Rattle.kc_files.specs.QuotedBytes.{lost_from}

abbrev pub is_string : SymbolType → Bool
is_string kind.Bool = false
is_string kind.Tristate = false
is_string kind.String = true
is_string kind.Int = false
is_string kind.Hex = false

-- the bytes after the opening quote in a line that gives a name a text
abbrev pub quoted_in : List ℕ → List ℕ → List ℕ → Option (List ℕ)
quoted_in prefix name line = after (prefix ++ (name ++ codes "=\"")) line

-- the place among these of the first byte that loses its backslash, where the symbol is a string
abbrev pub place_in : TreeValue → List ℕ → SymId → List ℕ → Option ℕ
place_in t prefix s line =
    if is_string (type_of t s) then option_and_then (lost_from false) (quoted_in prefix (name_of t s) line) else None

-- the line of a number from 1
abbrev pub numbered_line : List (List ℕ) → ℕ → Option (List ℕ)
numbered_line lines number = slice_get lines (number - 1)

-- the place in a line that can be used, among the lines of its text
abbrev pub place_of : TreeValue → List ℕ → List (List ℕ) → FragmentLine → Option ℕ
place_of t prefix lines l =
    option_and_then (λ a. option_and_then (place_in t prefix a.symbol) (numbered_line lines l.line.number)) (assign_of l.line)

abbrev pub dropped_in : ℕ → ℕ → DroppedBackslash
dropped_in i place = record { line = i; place = place }

-- a line of an index, among those that say something, drops a backslash
abbrev pub dropped_at : TreeValue → List ℕ → List (List ℕ) → List FragmentLine → ℕ → Option DroppedBackslash
dropped_at t prefix lines said i = option_map (dropped_in i) (option_and_then (place_of t prefix lines) (slice_get said i))

-- those lines, in their order
abbrev pub dropped_among : TreeValue → List ℕ → List (List ℕ) → List FragmentLine → List DroppedBackslash
dropped_among t prefix lines said = filter_map (dropped_at t prefix lines said) (range_with_len 0 (length said))

abbrev pub dropped_backslashes : TreeValue → List ℕ → List ℕ → List FragmentLine → List DroppedBackslash
dropped_backslashes t prefix text said = dropped_among t prefix (slice_split is_feed text) said
