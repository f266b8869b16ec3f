-- Help texts: kconfig-language.rst, "Menu attributes". What the indentation is, and where a text ends, are as there:
-- the end is found by the indentation of its first line.
use Rattle.std.specs.Prelude.{ℕ, ◌+◌, ◌-◌, ◌*◌, ◌/◌, Bool, List, [], ◌∷◌, ◌++◌, length, take, drop, if◌then◌else◌, ◌==◌, ◌||◌, ◌&&◌, nat_le, nat_lt, flat_map, codes, not, fold, replicate}
use Rattle.std.specs.List.{prefix_len, suffix_len, position_or_len, before_first}
use Rattle.std.specs.Str.{bytes_eq}
use Rattle.std.specs.Str.Lines.{strip_carriage_return}
use Rattle.kc_text.specs.Bytes.{is_blank, is_feed, begins_with, behind_blanks, before_blanks, trimmed}

-- the bytes before the first number sign
abbrev pub before_comment : List ℕ → List ℕ
before_comment bs = take (prefix_len (λ b. not (b == 35)) bs) bs

-- `help` or `---help---` is the only token of the line
abbrev pub is_help : List ℕ → Bool
is_help line = bytes_eq (trimmed (before_comment line)) (codes "help") || bytes_eq (trimmed (before_comment line)) (codes "---help---")

-- the line has blanks alone
abbrev pub is_blank_line : List ℕ → Bool
is_blank_line line = prefix_len is_blank line == length line

-- the bytes begin with the end of a line, or there are none
abbrev pub begins_with_end : List ℕ → Bool
begins_with_end bs = length bs == 0 || (begins_with 10 bs || (begins_with 13 bs && begins_with 10 (drop 1 bs)))

-- the first line of a text
abbrev pub first_of : List ℕ → List ℕ
first_of bs = if nat_lt (position_or_len is_feed bs) (length bs) then strip_carriage_return (before_first is_feed bs) else bs

-- the column behind a blank: a tab goes to the next multiple of 8
abbrev pub column_after : ℕ → ℕ → ℕ
column_after column b = if b == 9 then (column / 8 + 1) * 8 else column + 1

-- the column of the first byte that is no blank
abbrev pub indentation : List ℕ → ℕ
indentation line = fold column_after 0 (take (prefix_len is_blank line) line)

-- how many lines of blanks stand first
abbrev pub passed_lines : List (List ℕ) → ℕ
passed_lines lines = prefix_len is_blank_line lines

-- the indentation of the first line, 0 without lines
abbrev pub first_indentation : List (List ℕ) → ℕ
first_indentation [] = 0
first_indentation (line ∷ lines) = indentation line

-- whether a line belongs to a text of this indentation
abbrev pub is_inside : ℕ → List ℕ → Bool
is_inside column line = is_blank_line line || nat_le column (indentation line)

-- how many of these lines a text of this indentation has: none where it is not indented
abbrev pub len_inside : ℕ → List (List ℕ) → ℕ
len_inside column lines = if column == 0 then 0 else prefix_len (is_inside column) lines

-- how many of these lines the text has
abbrev pub text_len : List (List ℕ) → ℕ
text_len lines = len_inside (first_indentation lines) lines

-- the lines behind those of blanks alone
abbrev pub behind_passed : List (List ℕ) → List (List ℕ)
behind_passed lines = drop (passed_lines lines) lines

-- how many lines belong to the help whose `help` stands before them
abbrev pub help_len : List (List ℕ) → ℕ
help_len lines = passed_lines lines + text_len (behind_passed lines)

-- the lines of the text, without those of blanks alone at its end
abbrev pub text_lines : List (List ℕ) → List (List ℕ)
text_lines lines = take (text_len lines - suffix_len is_blank_line (take (text_len lines) lines)) lines

-- a line without its first columns and without blanks at its end, its indentation spelt in spaces
abbrev pub help_line : ℕ → List ℕ → List ℕ
help_line column line =
    if is_blank_line line then 10 ∷ []
    else replicate (indentation line - column) 32 ++ (before_blanks (behind_blanks line) ++ 10 ∷ [])

-- the text of the help whose `help` stands before the lines
abbrev pub help_text : List (List ℕ) → List ℕ
help_text lines = flat_map (help_line (first_indentation (behind_passed lines))) (text_lines (behind_passed lines))
