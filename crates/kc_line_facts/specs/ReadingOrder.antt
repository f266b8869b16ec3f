-- In which order the reader of a Kconfig comes to the uses of variables and to the `source` lines of its files: this
-- project's own, by docs/ERRORS.md, "Findings of `check`". In place of a `source` line are the lines of its file. Each
-- inclusion has a number, in the order in which they begin: the first one within another has the next number. What
-- is in a file counts the first time that it is included.
use Rattle.std.specs.Prelude.{ℕ, Bool, not, ◌+◌, ◌-◌, ◌==◌, ◌&&◌, List, [], ◌∷◌, ◌++◌, Option, if◌then◌else◌, drop, filter, flat_map, length, map, nat_le, nat_lt, option_map, slice_get, slice_index_or, slice_set, take}
use denote.Ref.{Bor}
use Rattle.std.specs.List.{prefix_len, range_with_len}
use Rattle.std.specs.List.Sorted.{IsNonDecreasingBy, IsPermutation, IsStableByKey}
use Rattle.std.specs.Option.{option_map_or}
use Rattle.std.specs.Ordering.{nat_cmp}
use Rattle.std.specs.Str.{bytes_eq}
use Rattle.kc_text.specs.LineValue.{LineValue}
use Rattle.kc_line_facts.specs.declared.named_variables.FileVariables.{FileVariables}
use Rattle.kc_line_facts.specs.declared.named_variables.NamedVariable.{NamedVariable}
use Rattle.kc_line_facts.specs.declared.read_order.Mark.TheVariants.{Source, Use}
use Rattle.kc_line_facts.specs.declared.read_order.Reached.{Reached}
use Rattle.kc_line_facts.specs.declared.read_order.VariableFile.{VariableFile}
use Rattle.kc_lines.specs.Culprits.{first_with}
use Rattle.kc_line_facts.specs.SourcedFiles.{first_run_of, start_of}
use Rattle.kc_line_facts.specs.UnusedDefaults.{is_end}

-- ---- the lines of an inclusion
abbrev pub ends : ℕ → LineValue → Bool
ends r line = (line.run == r) && is_end line

-- the line after its end
abbrev pub rest_of : List LineValue → ℕ → ℕ
rest_of lines r = prefix_len (λ line. not (ends r line)) lines + 1

-- the first one, from a number on, that doesn't begin before a line: after the end of one, the next one is it
abbrev pub run_after : List ℕ → ℕ → ℕ → ℕ
run_after starts r line = r + prefix_len (λ s. nat_lt s line) (drop r starts)

-- the lines from one on, before another
abbrev pub gap_of : List LineValue → ℕ → ℕ → List LineValue
gap_of lines from to = take (to - from) (drop from lines)

-- ---- the marks of a file
abbrev pub line_at : List NamedVariable → ℕ → ℕ
line_at uses k = option_map_or (λ u. u.line) (slice_get uses k) 0

-- a use comes before the first line of those between two `source` lines whose number isn't less than that of its own, and
-- if there is none, after these lines, as the next `source` line does; they begin at one
abbrev pub use_at : List LineValue → ℕ → ℕ → List NamedVariable → ℕ → Reached
use_at gap from file uses k = record { before = from + prefix_len (λ line. nat_lt line.number (line_at uses k)) gap; file = file; mark = Use k }

-- those from a number on, before another
abbrev pub uses_between : List LineValue → ℕ → ℕ → List NamedVariable → ℕ → ℕ → List Reached
uses_between gap from file uses k n = map (use_at gap from file uses) (range_with_len k (n - k))

-- the first use, from that of a number on, that is in a line after one
abbrev pub uses_up_to : List NamedVariable → ℕ → ℕ → ℕ
uses_up_to uses k line = k + prefix_len (λ u. nat_le u.line line) (drop k uses)

-- a file is cut at its `source` lines. These are left, and the first of them begins the inclusion of a number; k
-- uses are before; and the lines begin after the end of the file before. A `source` line comes where its file begins, after
-- the uses in lines up to it. The last lines are before the one after the end of the file
abbrev pub file_marks : List LineValue → List ℕ → List ℕ → ℕ → List NamedVariable → ℕ → ℕ → ℕ → ℕ → List ℕ → List Reached
file_marks lines starts rests file uses rest from k run [] = uses_between (gap_of lines from rest) from file uses k (length uses)
file_marks lines starts rests file uses rest from k run (line ∷ more) =
    uses_between (gap_of lines from (slice_index_or starts run 0)) from file uses k (uses_up_to uses k line)
    ++ record { before = slice_index_or starts run 0; file = file; mark = Source line run }
    ∷ file_marks lines starts rests file uses rest (slice_index_or rests run 0) (uses_up_to uses k line) (run_after starts run (slice_index_or rests run 0)) more

-- those of a file in the inclusion of a number
abbrev pub run_marks : List LineValue → List ℕ → List ℕ → ℕ → List NamedVariable → List ℕ → ℕ → List Reached
run_marks lines starts rests file uses sources r =
    file_marks lines starts rests file uses (slice_index_or rests r 0) (slice_index_or starts r 0) 0 (r + 1) sources

abbrev pub marks_from : List LineValue → List ℕ → List ℕ → ℕ → FileVariables → Option ℕ → List Reached
marks_from lines starts rests file found run =
    option_map_or (λ r. if nat_lt r (length starts) then run_marks lines starts rests file found.uses.items found.sources.items r else []) run []

-- ---- all files
abbrev pub runs_of : List LineValue → List ℕ
runs_of lines = range_with_len 0 (length (filter is_end lines))

-- what is in the file of a number, the first time that it is included
abbrev pub marks_of_file : List LineValue → ℕ → VariableFile → List Reached
marks_of_file lines file f = marks_from lines (map (start_of lines) (runs_of lines)) (map (rest_of lines) (runs_of lines)) file f.found (first_run_of lines f.path.now)

abbrev pub marks_at : List LineValue → List VariableFile → ℕ → List Reached
marks_at lines files n = option_map_or (marks_of_file lines n) (slice_get files n) []

abbrev pub marks_of : List LineValue → List VariableFile → List Reached
marks_of lines files = flat_map (marks_at lines files) (range_with_len 0 (length files))

-- all of them, by the lines before which they are, and else as the files and the lines in these follow one another
pub record AreReached (lines : List LineValue) (files : List VariableFile) (reached : List Reached) : Type 0 where
  pub all : IsPermutation (marks_of lines files) reached
  pub in_order : IsNonDecreasingBy (λ r. r.before) reached
  pub stable : IsStableByKey (λ (r : Reached). r.before) nat_cmp (marks_of lines files) reached

-- ---- a walk over lines
-- the first inclusion of a file, by the ends of files that are lent
abbrev pub lent_run : List (Bor LineValue) → List ℕ → Option ℕ
lent_run ends path = option_map (λ e. e.now.run) (first_with (λ e. bytes_eq e.now.path path) ends)

-- the line after the end of an inclusion is noted, if a line is that end
abbrev pub noted_rest : List ℕ → ℕ → Bool → ℕ → List ℕ
noted_rest rests r is rest = if is && nat_lt r (length rests) then slice_set rests r rest else rests
