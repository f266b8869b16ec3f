-- Comments that say in other words that a symbol is not set: this project's own, by docs/ERRORS.md, "Findings of `check`".
use Rattle.std.specs.Prelude.{ℕ, ◌==◌, Bool, false, not, ◌&&◌, ◌||◌, List, [], ◌∷◌, ◌++◌, Option, Some, None, codes, if◌then◌else◌, filter, length, option_and_then}
use Rattle.std.specs.List.{list_all, slice_split}
use Rattle.std.specs.Option.{option_map_or}
use Rattle.std.specs.Str.{bytes_eq}
use Rattle.kc_files.specs.ConfigLines.{is_trailing}
use Rattle.kc_files.specs.ReadingSteps.{after}

-- the words of a text: what is between spaces, tabs and carriage returns
abbrev pub is_some_word : List ℕ → Bool
is_some_word w = not (length w == 0)

abbrev pub words_in : List ℕ → List (List ℕ)
words_in text = filter is_some_word (slice_split is_trailing text)

-- `is not set`, `is unset` or `not set`
abbrev pub say_unset : List (List ℕ) → Bool
say_unset (first ∷ second ∷ third ∷ []) = bytes_eq first (codes "is") && bytes_eq second (codes "not") && bytes_eq third (codes "set")
say_unset (first ∷ second ∷ []) = (bytes_eq first (codes "is") && bytes_eq second (codes "unset")) || (bytes_eq first (codes "not") && bytes_eq second (codes "set"))
say_unset _ = false

-- the name, after its prefix, before these words
abbrev pub name_before : List ℕ → List (List ℕ) → Option (List ℕ)
name_before prefix [] = None
name_before prefix (first ∷ others) = if say_unset others then after prefix first else None

-- the name in a comment of these words
abbrev pub name_unset : List ℕ → List ℕ → Option (List ℕ)
name_unset prefix line = option_and_then (λ comment. name_before prefix (words_in comment)) (after (codes "#") line)

-- how a line says that a name is not set, so that it is no comment; it may have blanks at its end
abbrev pub unset_line : List ℕ → List ℕ → List ℕ
unset_line prefix name = codes "# " ++ (prefix ++ (name ++ codes " is not set"))

abbrev pub is_unset_line : List ℕ → List ℕ → List ℕ → Bool
is_unset_line prefix name line = option_map_or (list_all is_trailing) (after (unset_line prefix name) line) false

abbrev pub if_comment : List ℕ → List ℕ → List ℕ → Option (List ℕ)
if_comment prefix line name = if is_unset_line prefix name line then None else Some name

-- the name that a comment is likely meant to unset
abbrev pub name_meant : List ℕ → List ℕ → Option (List ℕ)
name_meant prefix line = option_and_then (if_comment prefix line) (name_unset prefix line)
