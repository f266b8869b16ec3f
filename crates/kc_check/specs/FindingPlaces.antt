-- In which lines the findings of `check` are: this project's own, by docs/ERRORS.md, "Findings of `check`".
use Rattle.std.specs.Prelude.{ℕ, List, Option, Some, None, option_and_then, option_map, slice_get}
use Rattle.std.specs.Option.{option_map_or}
use Rattle.kc_text.specs.LineValue.{LineValue}
use Rattle.kc_line_facts.specs.declared.earlier_faults.EarlierFault.{EarlierFault}
use Rattle.kc_line_facts.specs.declared.earlier_faults.EarlierFault.TheVariants.{Missing, SourcedAgain}
use Rattle.kc_line_facts.specs.declared.earlier_faults.EarlierFinding.{EarlierFinding}
use Rattle.kc_line_facts.specs.declared.read_order.VariableFile.{VariableFile}
use Rattle.kc_facts.specs.declared.tree_findings.FoundInTree.{FoundInTree}
use Rattle.kc_facts.specs.declared.tree_findings.TreeFinding.{TreeFinding}
use Rattle.kc_facts.specs.declared.tree_findings.TreeFinding.TheVariants as found
use Rattle.kc_line_facts.specs.EarlierFindings.{use_in}
use Rattle.kc_check.specs.declared.finding.FoundAt.{FoundAt}

-- ---- what comes before lines
-- a variable is missing in the line of its use, and a `source` line is superfluous itself
abbrev pub use_line : List VariableFile → ℕ → ℕ → ℕ
use_line files file k = option_map_or (λ u. u.line) (use_in files file k) 0

abbrev pub fault_line : List VariableFile → ℕ → EarlierFault → ℕ
fault_line files file (Missing k) = use_line files file k
fault_line files file (SourcedAgain line run first_file first_line) = line

abbrev pub earlier_place : List VariableFile → EarlierFinding → Option FoundAt
earlier_place files e = option_map (λ f. record { path = f.path.now; line = fault_line files e.file e.fault }) (slice_get files e.file)

abbrev pub nth_earlier_place : List VariableFile → List EarlierFinding → ℕ → Option FoundAt
nth_earlier_place files earlier k = option_and_then (earlier_place files) (slice_get earlier k)

-- ---- all
-- a logical line is where its file has it
abbrev pub line_place : List LineValue → ℕ → Option FoundAt
line_place lines n = option_map (λ line. record { path = line.path; line = line.number }) (slice_get lines n)

abbrev pub earlier_number : TreeFinding → Option ℕ
earlier_number (found.Earlier k) = Some k
earlier_number (found.Forced f) = None
earlier_number (found.Unset n) = None
earlier_number (found.FaultyDefault f) = None
earlier_number (found.NeverModules n) = None
earlier_number (found.UnusedDefault u) = None
earlier_number (found.ExchangedRange r) = None
earlier_number (found.SelectedMember n) = None
earlier_number found.HiddenDefault = None
earlier_number (found.Name n) = None

-- what comes before a line is in a line of its own, and all else in the logical line of its number
abbrev pub place_by : List LineValue → List VariableFile → List EarlierFinding → ℕ → Option ℕ → Option FoundAt
place_by lines files earlier line (Some k) = nth_earlier_place files earlier k
place_by lines files earlier line None = line_place lines line

abbrev pub place_of : List LineValue → List VariableFile → List EarlierFinding → FoundInTree → Option FoundAt
place_of lines files earlier f = place_by lines files earlier f.line (earlier_number f.finding)
