-- The lines of a `.config` that say something, each with its number: this project's own.
use Rattle.std.specs.Prelude.{◌≡◌, ℕ, ◌+◌, List, [], ◌∷◌, ◌++◌, Option, Some, None, option_map, option_to_list}
use Rattle.std.specs.List.{AllZip}
use Rattle.kc_outline.specs.TreeValue.{TreeValue}
use Rattle.kc_files.specs.declared.assign.Assign.{Assign}
use Rattle.kc_files.specs.declared.numbered_lines.ConfigLine.{ConfigLine}
use Rattle.kc_files.specs.declared.numbered_lines.LineSays.{LineSays}
use Rattle.kc_files.specs.declared.numbered_lines.LineSays.TheVariants as said
use Rattle.kc_files.specs.declared.line_reading.Reading.{Reading}
use Rattle.kc_files.specs.declared.line_reading.Reading.TheVariants as reading
use Rattle.kc_files.specs.ConfigLines.{lines_in}
use Rattle.kc_files.specs.LineReading.{HasReading, IsAssignFor, IsUnfed}
use Rattle.kc_files.specs.LineSteps.{readings_in}

-- what a line says: nothing where it is empty or a comment
abbrev pub says_of : Reading → Option LineSays
says_of (reading.Usable a) = Some (said.Usable a)
says_of (reading.Warned k) = Some (said.Warned k)
says_of reading.Nothing = None

abbrev pub numbered : ℕ → LineSays → ConfigLine
numbered n s = record { number = n; says = s }

-- those that say something, of lines whose first has this number
abbrev pub lines_from : ℕ → List Reading → List ConfigLine
lines_from n [] = []
lines_from n (r ∷ rs) = option_to_list (option_map (numbered n) (says_of r)) ++ lines_from (n + 1) rs

-- Those of a text, numbered from 1. `AreLinesOf` says that these are what a text means, and nothing else.
unfoldable pub config_lines_in : TreeValue → List ℕ → List ℕ → List ConfigLine
config_lines_in t prefix text = lines_from 1 (readings_in t prefix text)

-- each line has its reading, and the lines are numbered from 1
pub record AreLinesOf (t : TreeValue) (prefix text : List ℕ) (lines : List ConfigLine) : Type 0 where
  pub readings : List Reading
  pub read : AllZip (HasReading t prefix) (lines_in text) readings
  pub are : lines ≡ lines_from 1 readings

-- the assignment of a usable line
abbrev pub assign_said : LineSays → Option Assign
assign_said (said.Usable a) = Some a
assign_said (said.Warned k) = None

abbrev pub assign_of : ConfigLine → Option Assign
assign_of line = assign_said line.says

-- a usable line assigns to a symbol of the tree, and a value of its type
abbrev pub IsSaidFor : TreeValue → LineSays → Type 0
IsSaidFor t (said.Usable a) = IsAssignFor t a
IsSaidFor t (said.Warned k) = Unit {0}

abbrev pub IsLineFor : TreeValue → ConfigLine → Type 0
IsLineFor t line = IsSaidFor t line.says

-- the value of a usable line, if it is a text, has no line feed
abbrev pub IsUnfedSaid : LineSays → Type 0
IsUnfedSaid (said.Usable a) = IsUnfed a
IsUnfedSaid (said.Warned k) = Unit {0}

abbrev pub IsUnfedLine : ConfigLine → Type 0
IsUnfedLine line = IsUnfedSaid line.says
