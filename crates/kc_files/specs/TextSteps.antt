-- Steps: a text in quotes while it is read, a character at a time: this project's own.
use Rattle.std.specs.Prelude.{ℕ, ◌==◌, Bool, not, ◌&&◌, List, ◌++◌, Option, option_map}
use Rattle.kc_files.specs.ReadingSteps.{text_from}

-- a quote without a backslash before it
abbrev pub is_end : Bool → ℕ → Bool
is_end escape c = c == 34 && not escape

-- a backslash that stands for the next character
abbrev pub is_escape : Bool → ℕ → Bool
is_escape escape c = c == 92 && not escape

-- the text of which so much is read, whether a backslash stands before, and the bytes that are left
abbrev pub begun : List ℕ → Bool → List ℕ → Option (List ℕ)
begun read escape bs = option_map (λ w. read ++ w) (text_from escape bs)
