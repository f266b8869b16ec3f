-- The words NAME=VALUE of a command line: this project's own.
use Rattle.std.specs.Prelude.{ℕ, Bool, false, not, List, [], ◌∷◌, length, ◌&&◌, ◌||◌, ◌==◌, nat_lt, if◌then◌else◌, Option, Some, None}
use Rattle.std.specs.List.{list_all, position_or_len, before_first, after_first}
use Rattle.std.specs.Char.{is_ascii_alphanumeric}

-- an ASCII letter or digit, `_` or `-`
abbrev pub is_name_byte : ℕ → Bool
is_name_byte b = is_ascii_alphanumeric b || (b == 95 || b == 45)

-- at least one such byte, the first not `-`
abbrev pub is_name : List ℕ → Bool
is_name [] = false
is_name (b ∷ bs) = not (b == 45) && list_all is_name_byte (b ∷ bs)

abbrev pub is_equals : ℕ → Bool
is_equals b = b == 61

-- the name and the text of a word: what is before its first `=`, where that is a name, and what is after it
abbrev pub variable_of : List ℕ → Option (List ℕ × List ℕ)
variable_of word = if nat_lt (position_or_len is_equals word) (length word) && is_name (before_first is_equals word) then Some (before_first is_equals word, after_first is_equals word) else None
