-- What becomes of the lines of fragments that are merged: this project's own, by docs/FILES.md, "What a load changes".
use Rattle.std.specs.Prelude.{ℕ, Bool, true, false, not, ◌&&◌, ◌==◌, List, [], ◌∷◌, ◌++◌, Option, Some, None, map, nat_lt, slice_index_or, slice_set, replicate, if◌then◌else◌, length, ◌+◌, option_and_then}
use Rattle.std.specs.Option.{option_map_or}
use Rattle.kc_outline.specs.declared.id.ChoiceId.{ChoiceId}
use Rattle.kc_outline.specs.TreeValue.{TreeValue, choice_of}
use Rattle.kc_value.specs.Assignment.{Assignment}
use Rattle.kc_files.specs.declared.assign.Assign.{Assign}
use Rattle.kc_files.specs.declared.numbered_lines.ConfigLine.{ConfigLine}
use Rattle.kc_files.specs.declared.numbered_lines.LineSays.{LineSays}
use Rattle.kc_files.specs.declared.numbered_lines.LineSays.TheVariants as says
use Rattle.kc_files.specs.Effects.{has_effect, line_names}
use Rattle.kc_files.specs.Loading.{is_yes}
use Rattle.kc_files.specs.NumberedLines.{assign_of, config_lines_in, IsLineFor}
use Rattle.kc_files.specs.declared.outcomes.Outcome.{Outcome}
use Rattle.kc_files.specs.declared.outcomes.Outcome.TheVariants as outcome
use Rattle.kc_files.specs.declared.outcomes.Later.{Later}
use Rattle.kc_files.specs.declared.fragments.FragmentLine.{FragmentLine}
use Rattle.kc_files.specs.declared.input.Input.{Input}

-- ---- the lines of fragments
-- lines with the index of their fragment
abbrev pub placed : ℕ → List ConfigLine → List FragmentLine
placed f lines = map (λ line. record { fragment = f; line = line }) lines

-- those of some fragments, of which the first has this index
abbrev pub fragment_lines_from : TreeValue → List ℕ → ℕ → List Input → List FragmentLine
fragment_lines_from t prefix f [] = []
fragment_lines_from t prefix f (x ∷ later) =
    placed f (config_lines_in t prefix x.bytes.now) ++ fragment_lines_from t prefix (f + 1) later

abbrev pub fragment_lines : TreeValue → List ℕ → List Input → List FragmentLine
fragment_lines t prefix fragments = fragment_lines_from t prefix 0 fragments

abbrev pub IsPlacedFor : TreeValue → FragmentLine → Type 0
IsPlacedFor t line = IsLineFor t line.line

-- ---- the line that takes the place of another
-- the next line that names the symbol of this number, where the first line has this index
abbrev pub next_naming : ℕ → ℕ → List FragmentLine → Option Later
next_naming n s [] = None
next_naming n s (line ∷ later) =
    if line_names (record { 0 = s }) line.line then Some (record { index = n; fragment = line.fragment })
    else next_naming (n + 1) s later

-- there is a line, and it is of this fragment
abbrev pub is_in : ℕ → Option Later → Bool
is_in f line = option_map_or (λ l. l.fragment == f) line false

-- A line counts where the next line that names its symbol is not of its fragment: a fragment gives a symbol the value of
-- its last line.
abbrev pub counts : ℕ → ℕ → Assign → List FragmentLine → Bool
counts n f x later = not (is_in f (next_naming n x.symbol.0 later))

-- the number of the choice that an assignment chooses a member of: that of a member that is y
abbrev pub number_in : TreeValue → ChoiceId → Option ℕ
number_in t c = if nat_lt c.0 (length t.choices) then Some c.0 else None

abbrev pub chosen_by : TreeValue → Assign → Option ℕ
chosen_by t x = if is_yes x.value then option_and_then (number_in t) (choice_of t x.symbol) else None

-- a line that counts chooses a member of the choice of this number; the line after it has this index
abbrev pub chooses : TreeValue → ℕ → ℕ → FragmentLine → List FragmentLine → Bool
chooses t n c line later = option_map_or
    (λ x. counts n line.fragment x later && option_map_or (λ d. d == c) (chosen_by t x) false)
    (assign_of line.line) false

-- the next line that counts and chooses a member of a choice
abbrev pub next_choosing : TreeValue → ℕ → ℕ → List FragmentLine → Option Later
next_choosing t n c [] = None
next_choosing t n c (line ∷ later) =
    if chooses t (n + 1) c line later then Some (record { index = n; fragment = line.fragment })
    else next_choosing t (n + 1) c later

-- The line that takes the place of an assignment in a fragment: where that does not count, the next one of the fragment
-- that names its symbol. Else y of a member gives way to the next line that chooses a member of its choice, as n of a
-- member leaves the choice as it is, and any other assignment to the next line that names its symbol.
abbrev pub replacer : TreeValue → ℕ → ℕ → Assign → List FragmentLine → Option Later
replacer t n f x later =
    if is_in f (next_naming n x.symbol.0 later) then next_naming n x.symbol.0 later
    else option_map_or (λ c. next_choosing t n c later) (chosen_by t x) (next_naming n x.symbol.0 later)

-- ---- what becomes of lines
-- A usable line is replaced where another takes its place. Else it got its value, or its symbol has another one.
abbrev pub outcome_by : Assignment → Option Later → Assign → Outcome
outcome_by a (Some l) x = outcome.Replaced l.index
outcome_by a None x = if has_effect a x then outcome.Got else outcome.Other

-- that of a line, where the line after it has this index
abbrev pub outcome_of : TreeValue → Assignment → ℕ → FragmentLine → List FragmentLine → Outcome
outcome_of t a n line later = option_map_or (λ x. outcome_by a (replacer t n line.fragment x later) x) (assign_of line.line) outcome.Unusable

-- that of each line, where the first has this index
abbrev pub outcomes_from : TreeValue → Assignment → ℕ → List FragmentLine → List Outcome
outcomes_from t a n [] = []
outcomes_from t a n (line ∷ later) = outcome_of t a (n + 1) line later ∷ outcomes_from t a (n + 1) later

abbrev pub outcomes : TreeValue → Assignment → List FragmentLine → List Outcome
outcomes t a lines = outcomes_from t a 0 lines

-- ---- a walk over lines, from the last one back
-- what becomes of those that were gone over, the last first; the first of them that names a symbol, by number; and the
-- first that chooses a member of a choice, by number
pub record SearchValue : Type 0 where
  pub found : List Outcome
  pub named : List (Option Later)
  pub chosen : List (Option Later)

abbrev pub new_search : TreeValue → SearchValue
new_search t = record { found = []; named = replicate (length t.symbols) None; chosen = replicate (length t.choices) None }

abbrev pub replacer_in : TreeValue → ℕ → Assign → SearchValue → Option Later
replacer_in t f x s =
    if is_in f (slice_index_or s.named x.symbol.0 None) then slice_index_or s.named x.symbol.0 None
    else option_map_or (λ c. slice_index_or s.chosen c None) (chosen_by t x) (slice_index_or s.named x.symbol.0 None)

abbrev pub chosen_with : TreeValue → Later → Assign → SearchValue → List (Option Later)
chosen_with t line x s =
    if is_in line.fragment (slice_index_or s.named x.symbol.0 None) then s.chosen
    else option_map_or (λ c. slice_set s.chosen c (Some line)) (chosen_by t x) s.chosen

abbrev pub searched_assign : TreeValue → Assignment → Later → Assign → SearchValue → SearchValue
searched_assign t a line x s = record {
  found = s.found ++ outcome_by a (replacer_in t line.fragment x s) x ∷ [];
  named = slice_set s.named x.symbol.0 (Some line);
  chosen = chosen_with t line x s;
}

abbrev pub searched_said : TreeValue → Assignment → ℕ → ℕ → LineSays → SearchValue → SearchValue
searched_said t a n f (says.Usable x) s = searched_assign t a (record { index = n; fragment = f }) x s
searched_said t a n f (says.Warned k) s = record { found = s.found ++ outcome.Unusable ∷ []; named = s.named; chosen = s.chosen }

-- ---- counts
abbrev pub is_got : Outcome → Bool
is_got outcome.Got = true
is_got outcome.Other = false
is_got outcome.Unusable = false
is_got (outcome.Replaced n) = false

abbrev pub is_other : Outcome → Bool
is_other outcome.Got = false
is_other outcome.Other = true
is_other outcome.Unusable = false
is_other (outcome.Replaced n) = false

abbrev pub is_unusable : Outcome → Bool
is_unusable outcome.Got = false
is_unusable outcome.Other = false
is_unusable outcome.Unusable = true
is_unusable (outcome.Replaced n) = false

abbrev pub is_replaced : Outcome → Bool
is_replaced outcome.Got = false
is_replaced outcome.Other = false
is_replaced outcome.Unusable = false
is_replaced (outcome.Replaced n) = true
