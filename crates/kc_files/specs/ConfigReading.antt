-- What a `.config` gives a tree, and its warnings: this project's own.
use Rattle.std.specs.Prelude.{◌≡◌, ℕ, ◌+◌, ◌==◌, Bool, List, [], ◌∷◌, ◌++◌, Option, Some, None, option_map, option_to_list, filter_map, if◌then◌else◌}
use Rattle.std.specs.List.{list_any, AllZip}
use Rattle.kc_statement.specs.declared.id.SymId.{SymId}
use Rattle.kc_outline.specs.TreeValue.{TreeValue}
use Rattle.kc_files.specs.declared.assign.Assign.{Assign}
use Rattle.kc_files.specs.declared.warning.Warning.{Warning}
use Rattle.kc_files.specs.declared.warning.WarningKind.{WarningKind}
use Rattle.kc_files.specs.declared.warning.WarningKind.TheVariants.{Repeated}
use Rattle.kc_files.specs.declared.line_reading.Reading.{Reading}
use Rattle.kc_files.specs.declared.line_reading.Reading.TheVariants.{Usable, Warned, Nothing}
use Rattle.kc_files.specs.ConfigLines.{lines_in}
use Rattle.kc_files.specs.LineReading.{HasReading}

-- the assignment of a usable line
abbrev pub usable : Reading → Option Assign
usable (Usable a) = Some a
usable (Warned w) = None
usable Nothing = None

abbrev pub names_symbol : SymId → Assign → Bool
names_symbol s a = a.symbol.0 == s.0

-- the assignments that count: no later one names the same symbol
abbrev pub counting : List Assign → List Assign
counting [] = []
counting (a ∷ later) = if list_any (names_symbol a.symbol) later then counting later else a ∷ counting later

-- The warning of a line, after the usable lines before it: its own, or that its symbol has a usable line before.
abbrev pub warning_of : List Assign → Reading → Option WarningKind
warning_of before (Usable a) = if list_any (names_symbol a.symbol) before then Some Repeated else None
warning_of before (Warned w) = Some w
warning_of before Nothing = None

-- the warnings of lines in their order, of which the first has this number, after the usable lines before them
abbrev pub warnings_from : List Assign → ℕ → List Reading → List Warning
warnings_from before number [] = []
warnings_from before number (r ∷ rs) =
    option_to_list (option_map (λ k. record { line = number; kind = k }) (warning_of before r))
    ++ warnings_from (before ++ option_to_list (usable r)) (number + 1) rs

-- each line has its reading; of the usable ones those are left that count; and the lines are numbered from 1
pub record IsConfigReading (t : TreeValue) (prefix text : List ℕ) (assigns : List Assign) (warnings : List Warning) : Type 0 where
  pub readings : List Reading
  pub read : AllZip (HasReading t prefix) (lines_in text) readings
  pub counted : assigns ≡ counting (filter_map usable readings)
  pub warned : warnings ≡ warnings_from [] 1 readings
