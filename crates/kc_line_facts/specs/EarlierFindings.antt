-- What is found before a line where the reader of a Kconfig comes to it, variables that are missing and `source` lines that
-- are superfluous: this project's own, by docs/ERRORS.md, "Findings of `check`". The list is the one in the reader's order.
use Rattle.std.specs.Prelude.{◌≡◌, ℕ, Bool, false, ◌==◌, List, [], ◌∷◌, ◌++◌, Option, Some, None, if◌then◌else◌, length, map, option_and_then, option_map, slice_get}
use Rattle.std.specs.List.{filter_map, find, range_with_len}
use Rattle.std.specs.Option.{option_map_or}
use Rattle.kc_text.specs.LineValue.{LineValue}
use Rattle.kc_outline.specs.TreeValue.{TreeValue}
use Rattle.kc_line_facts.specs.declared.earlier_faults.EarlierFault.{EarlierFault}
use Rattle.kc_line_facts.specs.declared.earlier_faults.EarlierFault.TheVariants.{Missing, SourcedAgain}
use Rattle.kc_line_facts.specs.declared.earlier_faults.EarlierFinding.{EarlierFinding}
use Rattle.kc_line_facts.specs.declared.named_variables.NamedVariable.{NamedVariable}
use Rattle.kc_line_facts.specs.declared.read_order.Mark.{Mark}
use Rattle.kc_line_facts.specs.declared.read_order.Mark.TheVariants.{Source, Use}
use Rattle.kc_line_facts.specs.declared.read_order.Reached.{Reached}
use Rattle.kc_line_facts.specs.declared.read_order.VariableFile.{VariableFile}
use Rattle.kc_line_facts.specs.declared.sourced_twice.RepeatedFile.{RepeatedFile}
use Rattle.kc_line_facts.specs.FreshNames.{is_fresh}
use Rattle.kc_line_facts.specs.ReadingOrder.{AreReached}
use Rattle.kc_line_facts.specs.SourcedFiles.{repeated_files}
use Rattle.kc_line_facts.specs.VariableNames.{defined_names}

-- ---- variables that are missing
-- the use of a number in the file of a number
abbrev pub use_in : List VariableFile → ℕ → ℕ → Option NamedVariable
use_in files file k = option_and_then (λ f. slice_get f.found.uses.items k) (slice_get files file)

-- the name of the variable to which the reader comes; a `source` line has none
abbrev pub mark_name : List VariableFile → ℕ → Mark → List ℕ
mark_name files file (Use k) = option_map_or (λ u. u.name) (use_in files file k) []
mark_name files file (Source line run) = []

abbrev pub reached_name : List VariableFile → Reached → List ℕ
reached_name files m = mark_name files m.file m.mark

abbrev pub reached_names : List VariableFile → List Reached → List (List ℕ)
reached_names files reached = map (reached_name files) reached

-- the names that some line defines, whether the reader comes to it before or after a use, and those that were given;
-- no variable has an empty name
abbrev pub known_names : List VariableFile → List (List ℕ) → List (List ℕ)
known_names files given = [] ∷ (defined_names files ++ given)

-- a variable is missing where the reader comes first to a use of it, and nobody gave its name and no line defines it
abbrev pub is_missing : List VariableFile → List (List ℕ) → List Reached → ℕ → Bool
is_missing files given reached k = is_fresh (reached_names files reached) (known_names files given) k

abbrev pub if_missing : Bool → ℕ → Option EarlierFault
if_missing is place = if is then Some (Missing place) else None

-- ---- `source` lines that are superfluous
-- the inclusion that a mark begins, if it does
abbrev pub mark_run : Mark → Option ℕ
mark_run (Use k) = None
mark_run (Source line run) = Some run

abbrev pub puts : ℕ → Reached → Bool
puts r m = option_map_or (λ run. run == r) (mark_run m.mark) false

abbrev pub if_puts : ℕ → Reached → Option Reached
if_puts r m = if puts r m then Some m else None

abbrev pub mark_line : Mark → ℕ
mark_line (Use k) = 0
mark_line (Source line run) = line

abbrev pub repeats : ℕ → RepeatedFile → Bool
repeats r f = f.run == r

-- a `source` line and the inclusion that it begins, by the line of the first inclusion
abbrev pub sourced_again : ℕ → ℕ → Option Reached → Option EarlierFault
sourced_again line run first = option_map (λ s. SourcedAgain line run s.file (mark_line s.mark)) first

-- by the times that are superfluous, and the first line of each time
abbrev pub again_by : (ℕ → Option RepeatedFile) → (ℕ → Option Reached) → ℕ → ℕ → Option EarlierFault
again_by repeated sources line run = option_and_then (λ f. sourced_again line run (sources f.first)) (repeated run)

-- a `source` line is superfluous where the inclusion that it begins is, since the file was included before; the
-- reader comes to the line that did that
abbrev pub again_at : List RepeatedFile → List Reached → ℕ → ℕ → Option EarlierFault
again_at repeated reached line run = again_by (λ r. find (repeats r) repeated) (λ r. find (puts r) reached) line run

-- ---- all
abbrev pub fault_by : (ℕ → Bool) → (ℕ → Option RepeatedFile) → (ℕ → Option Reached) → ℕ → Mark → Option EarlierFault
fault_by missing repeated sources k (Use place) = if_missing (missing k) place
fault_by missing repeated sources k (Source line run) = again_by repeated sources line run

abbrev pub fault_of : List VariableFile → List (List ℕ) → List RepeatedFile → List Reached → ℕ → Mark → Option EarlierFault
fault_of files given repeated reached k mark =
    fault_by (is_missing files given reached) (λ r. find (repeats r) repeated) (λ r. find (puts r) reached) k mark

abbrev pub found_with : Reached → Option EarlierFault → Option EarlierFinding
found_with m fault = option_map (λ f. record { before = m.before; file = m.file; fault = f }) fault

-- what is found where the reader comes to the mark of a number
abbrev pub found_at : List VariableFile → List (List ℕ) → List RepeatedFile → List Reached → ℕ → Option EarlierFinding
found_at files given repeated reached k =
    option_and_then (λ m. found_with m (fault_of files given repeated reached k m.mark)) (slice_get reached k)

-- in the reader's order
abbrev pub found_in_order : List VariableFile → List (List ℕ) → List RepeatedFile → List Reached → List EarlierFinding
found_in_order files given repeated reached =
    filter_map (found_at files given repeated reached) (range_with_len 0 (length reached))

abbrev pub AreEarlier : List LineValue → TreeValue → List VariableFile → List (List ℕ) → List EarlierFinding → Type 0
AreEarlier lines t files given found =
    (reached : List Reached) × AreReached lines files reached × (found ≡ found_in_order files given (repeated_files lines t) reached)
