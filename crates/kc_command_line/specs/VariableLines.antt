-- This project's own: which lines of a file of `--variables` give a variable.
use Rattle.std.specs.Prelude.{ℕ, Bool, not, List, ◌&&◌, ◌||◌, ◌==◌, if◌then◌else◌, Option, None, is_none}
use Rattle.std.specs.List.{list_all, slice_index}
use Rattle.kc_command_line.specs.Variables.{variable_of}

abbrev pub is_blank_byte : ℕ → Bool
is_blank_byte b = b == 32 || b == 9

-- blanks alone, or nothing
abbrev pub is_blank : List ℕ → Bool
is_blank line = list_all is_blank_byte line

-- `#` is the first byte
abbrev pub is_comment : List ℕ → Bool
is_comment line = slice_index line 0 == 35

abbrev pub is_passed_over : List ℕ → Bool
is_passed_over line = is_comment line || is_blank line

abbrev pub line_variable : List ℕ → Option (List ℕ × List ℕ)
line_variable line = if is_passed_over line then None else variable_of line

abbrev pub is_malformed : List ℕ → Bool
is_malformed line = not (is_passed_over line) && is_none (variable_of line)
