-- The lines of a `.config`: this project's own.
use Rattle.std.specs.Prelude.{ℕ, ◌-◌, ◌==◌, Bool, ◌||◌, List, [], ◌∷◌, length, take, if◌then◌else◌}
use Rattle.std.specs.List.{onto_first, suffix_len}

-- a line feed
abbrev pub is_feed : ℕ → Bool
is_feed b = b == 10

-- the lines without their line feeds; an empty rest behind the last line feed is none
abbrev pub lines_in : List ℕ → List (List ℕ)
lines_in [] = []
lines_in (b ∷ bs) = if is_feed b then [] ∷ lines_in bs else onto_first b (lines_in bs)

-- a space, a tab and a carriage return, which mean nothing at the end of a line
abbrev pub is_trailing : ℕ → Bool
is_trailing b = b == 32 || b == 9 || b == 13

-- a line without those at its end
abbrev pub trimmed : List ℕ → List ℕ
trimmed line = take (length line - suffix_len is_trailing line) line
