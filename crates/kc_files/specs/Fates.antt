-- What becomes of a line of a `.config` among the lines of its text, whatever the values are: this project's own.
use Rattle.std.specs.Prelude.{◌≡◌, ℕ, ◌+◌, ◌<◌, ◌==◌, Bool, true, false, List, [], ◌∷◌, ◌++◌, Option, Some, None, length, drop, option_map, slice_get, slice_index_or, if◌then◌else◌}
use Rattle.std.specs.List.{All, list_any}
use Rattle.std.specs.Option.{option_map_or, option_or}
use Rattle.kc_statement.specs.declared.id.SymId.{SymId}
use Rattle.kc_files.specs.declared.assign.Assign.{Assign}
use Rattle.kc_files.specs.declared.warning.Warning.{Warning}
use Rattle.kc_files.specs.declared.warning.WarningKind.{WarningKind}
use Rattle.kc_files.specs.declared.warning.WarningKind.TheVariants.{Repeated}
use Rattle.kc_files.specs.declared.numbered_lines.ConfigLine.{ConfigLine}
use Rattle.kc_files.specs.declared.numbered_lines.Fate.{Fate}
use Rattle.kc_files.specs.declared.numbered_lines.Fate.TheVariants.{Counts, Replaced, Unusable}
use Rattle.kc_files.specs.declared.numbered_lines.LineSays.{LineSays}
use Rattle.kc_files.specs.declared.numbered_lines.LineSays.TheVariants as said
use Rattle.kc_files.specs.declared.line_reading.Reading.{Reading}
use Rattle.kc_files.specs.declared.line_reading.Reading.TheVariants as reading
use Rattle.kc_files.specs.Effects.{line_names, IsSaidInside}
use Rattle.kc_files.specs.NumberedLines.{numbered}

-- the index of the last usable line that names a symbol, of lines whose first has this index
abbrev pub last_from : ℕ → SymId → List ConfigLine → Option ℕ
last_from i s [] = None
last_from i s (line ∷ later) = option_or (last_from (i + 1) s later) (if line_names s line then Some i else None)

-- What becomes of a line, by those after it, whose first has this index: the last that names its symbol takes its place.
abbrev pub fate_of : ℕ → LineSays → List ConfigLine → Fate
fate_of i (said.Usable a) later = option_map_or (λ n. Replaced n) (last_from i a.symbol later) Counts
fate_of i (said.Warned k) later = Unusable

abbrev pub fate_at : List ConfigLine → ℕ → Option Fate
fate_at lines i = option_map (λ line. fate_of (i + 1) line.says (drop (i + 1) lines)) (slice_get lines i)

-- ---- lines that are read one after the other
-- the count of the symbols, the lines that say something, and the warnings
pub record ReadLines : Type 0 where
  pub symbols : ℕ
  pub lines : List ConfigLine
  pub warnings : List Warning

-- before the first line
abbrev pub new_lines : ℕ → ReadLines
new_lines symbols = record { symbols = symbols; lines = []; warnings = [] }

-- with a line of this number, and with a warning of it
abbrev pub with_line : ReadLines → ℕ → LineSays → ReadLines
with_line r n says = record { symbols = r.symbols; lines = r.lines ++ numbered n says ∷ []; warnings = r.warnings }

abbrev pub with_warning : ReadLines → ℕ → WarningKind → ReadLines
with_warning r n k = record { symbols = r.symbols; lines = r.lines; warnings = r.warnings ++ record { line = n; kind = k } ∷ [] }

abbrev pub with_warned : ReadLines → ℕ → WarningKind → ReadLines
with_warned r n k = with_line (with_warning r n k) n (said.Warned k)

-- with the warning of a symbol that has a usable line before
abbrev pub with_repeat : ReadLines → ℕ → SymId → ReadLines
with_repeat r n s = if list_any (line_names s) r.lines then with_warning r n Repeated else r

abbrev pub with_reading : ReadLines → ℕ → Reading → ReadLines
with_reading r n (reading.Usable a) = with_line (with_repeat r n a.symbol) n (said.Usable a)
with_reading r n (reading.Warned k) = with_warned r n k
with_reading r n reading.Nothing = r

-- a table of the last usable line of each symbol, by number
pub record AreLast (table : List (Option ℕ)) (lines : List ConfigLine) : Type 0 where
  pub inside : All (λ line. IsSaidInside (length table) line.says) lines
  pub last : (s : ℕ) → s < length table → slice_index_or table s None ≡ last_from 0 (record { 0 = s }) lines

-- what becomes of a usable line of this index, by the index of the last one of its symbol
abbrev pub fate_by : ℕ → Option ℕ → Fate
fate_by i None = Counts
fate_by i (Some n) = if n == i then Counts else Replaced n

abbrev pub fate_said : List (Option ℕ) → ℕ → LineSays → Fate
fate_said table i (said.Usable a) = fate_by i (slice_index_or table a.symbol.0 None)
fate_said table i (said.Warned k) = Unusable

abbrev pub counts : Fate → Bool
counts Counts = true
counts (Replaced n) = false
counts Unusable = false

-- the assignment of a line of this index, where it counts
abbrev pub counting_at : List (Option ℕ) → ℕ → LineSays → List Assign
counting_at table i (said.Usable a) = if counts (fate_by i (slice_index_or table a.symbol.0 None)) then a ∷ [] else []
counting_at table i (said.Warned k) = []
