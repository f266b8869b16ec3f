-- What is said of the lines of a tree: this project's own, by docs/ERRORS.md, "Findings of `check`".
use Rattle.std.specs.Prelude.{◌≡◌, ℕ, List, ◌++◌, map}
use Rattle.kc_text.specs.LineValue.{LineValue}
use Rattle.kc_outline.specs.TreeValue.{TreeValue}
use Rattle.kc_value.specs.Assignment.{Assignment}
use Rattle.kc_line_facts.specs.declared.earlier_faults.EarlierFinding.{EarlierFinding}
use Rattle.kc_line_facts.specs.declared.listed_names.Extent.{Extent}
use Rattle.kc_line_facts.specs.declared.listed_names.ListedNames.{ListedNames}
use Rattle.kc_line_facts.specs.declared.read_order.VariableFile.{VariableFile}
use Rattle.kc_facts.specs.declared.tree_findings.FoundInTree.{FoundInTree}
use Rattle.kc_line_facts.specs.EarlierFindings.{AreEarlier}
use Rattle.kc_line_facts.specs.ListedNames.{IsListing}
use Rattle.kc_facts.specs.TreeFindings.{AreByLine, found_by_kind}
use Rattle.kc_check.specs.declared.finding.Finding.{Finding}
use Rattle.kc_check.specs.FindingPlaces.{place_of}
use Rattle.kc_check.specs.ReportLines.{said_once}

abbrev pub befores : List EarlierFinding → List ℕ
befores earlier = map (λ e. e.before) earlier

-- one finding is said of each fact, in its line, in the order of the facts
abbrev pub AreOfFacts : List LineValue → List VariableFile → List EarlierFinding → List FoundInTree → List Finding → Type 0
AreOfFacts lines files earlier facts findings = map (λ f. f.at) findings ≡ map (place_of lines files earlier) facts

-- a report has what is found in the lines of a tree, with the names of these lines, each line once
pub record IsTreeReport (lines : List LineValue) (t : TreeValue) (a : Assignment) (files : List VariableFile) (given : List (List ℕ)) (extent : Extent) (names : List ℕ) (report : List Finding) : Type 0 where
  pub earlier : List EarlierFinding
  pub are_earlier : AreEarlier lines t files given earlier
  pub facts : List FoundInTree
  pub by_line : AreByLine (found_by_kind (befores earlier) names extent lines t a) facts
  pub said : List Finding
  pub each : AreOfFacts lines files earlier facts said
  pub once : report ≡ said_once said

-- the names of these lines are those of the tree that are listed, where names have a prefix
pub record IsListedReport (lines : List LineValue) (t : TreeValue) (a : Assignment) (files : List VariableFile) (given : List (List ℕ)) (prefix : List ℕ) (extent : Extent) (report : List Finding) : Type 0 where
  pub names : ListedNames
  pub are_listed : IsListing lines t prefix extent names
  pub is_report : IsTreeReport lines t a files given extent names.lines.items report
