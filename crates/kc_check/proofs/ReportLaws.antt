-- What a report has, from its parts.
use Rattle.std.proofs.Common.{◌≡◌, ℕ, Bool, not, ◌&&◌, List, [], ◌++◌, map, ap, ◌∙◌, append_assoc, subst}
use Rattle.std.proofs.lemmas.List.{map-append}
use Rattle.std.specs.List.{AllZip}
use Rattle.kc_text.specs.LineValue.{LineValue}
use Rattle.kc_outline.specs.TreeValue.{TreeValue}
use Rattle.kc_value.specs.Assignment.{Assignment}
use Rattle.kc_line_facts.specs.declared.earlier_faults.EarlierFinding.{EarlierFinding}
use Rattle.kc_line_facts.specs.declared.listed_names.Extent.{Extent}
use Rattle.kc_line_facts.specs.declared.read_order.VariableFile.{VariableFile}
use Rattle.kc_facts.specs.declared.tree_findings.FoundInTree.{FoundInTree}
use Rattle.kc_line_facts.specs.EarlierFindings.{AreEarlier}
use Rattle.kc_facts.specs.TreeFindings.{AreByLine, found_by_kind}
use Rattle.kc_check.specs.declared.finding.Finding.{Finding}
use Rattle.kc_check.specs.declared.inputs.SourceText.{SourceText}
use Rattle.kc_check.specs.CheckReport.{IsCheckReport, IsFileOf, exchanged_if, has_symbols, is_all, unused_if}
use Rattle.kc_check.specs.ReportLines.{said_once}
use Rattle.kc_check.specs.TreeReport.{AreOfFacts, IsListedReport, IsTreeReport, befores}
use Rattle.kc_check.specs.UnusedVariables.{About, about, unused_given}

-- the lines of a tree, by what is lent on the way
pub tree_report : (read lines : List LineValue) (u t : TreeValue) (a : Assignment) (files own : List VariableFile) (given : List (List ℕ)) (extent : Extent) (names numbers : List ℕ)
    (earlier lent : List EarlierFinding) (facts lent_facts : List FoundInTree) (said once : List Finding)
    → read ≡ lines → u ≡ t → files ≡ own → AreEarlier read u files given earlier → numbers ≡ befores earlier
    → AreByLine (found_by_kind numbers names extent lines t a) facts → lent ≡ earlier → lent_facts ≡ facts → AreOfFacts read files lent lent_facts said
    → once ≡ said_once said → IsTreeReport lines t a own given extent names once
tree_report read lines u t a files own given extent names numbers earlier lent facts lent_facts said once same_lines same_tree same_files are numbers_are by lent_is facts_are each once_is =
    record {
      earlier = earlier;
      are_earlier = subst (λ l. AreEarlier l t own given earlier) same_lines
          (subst (λ x. AreEarlier read x own given earlier) same_tree (subst (λ f. AreEarlier read u f given earlier) same_files are));
      facts = facts;
      by_line = subst (λ n. AreByLine (found_by_kind n names extent lines t a) facts) numbers_are by;
      said = said;
      each = subst (λ l. AreOfFacts l own earlier facts said) same_lines
          (subst (λ f. AreOfFacts read f earlier facts said) same_files
          (subst (λ e. AreOfFacts read files e facts said) lent_is (subst (λ f. AreOfFacts read files lent f said) facts_are each)));
      once = once_is;
    }

-- all that is said of a Kconfig, part after part
whole_is : (none first middle third all report : List Finding) (E U G : List About) → none ≡ [] → map about first ≡ map about none ++ E → middle ≡ first ++ report
    → map about third ≡ map about middle ++ U → map about all ≡ map about third ++ G → map about all ≡ E ++ (map about report ++ (U ++ G))
whole_is none first middle third all report E U G empty is_first is_middle is_third is_all =
    is_all
    ∙ ap (λ (x : List About). x ++ G)
    (is_third ∙ ap (λ (x : List About). x ++ U)
    (ap (map about) is_middle ∙ map-append about first report ∙ ap (λ (x : List About). x ++ map about report) (is_first ∙ ap (λ (x : List Finding). map about x ++ E) empty)))
    ∙ append_assoc (E ++ map about report) U G
    ∙ append_assoc E (map about report) (U ++ G)

pub check_report : (sources : List SourceText) (lines : List LineValue) (t : TreeValue) (a : Assignment) (given : List (List ℕ)) (prefix : List ℕ) (extent : Extent) (files : List VariableFile)
    (none first middle third all report : List Finding) → AllZip IsFileOf sources files → IsListedReport lines t a files given prefix extent report → none ≡ []
    → map about first ≡ map about none ++ exchanged_if (not (has_symbols t)) files → middle ≡ first ++ report
    → map about third ≡ map about middle ++ unused_if (has_symbols t && is_all extent) files → map about all ≡ map about third ++ unused_given files given
    → IsCheckReport sources lines t a given prefix extent all
check_report sources lines t a given prefix extent files none first middle third all report are_files is_report empty is_first is_middle is_third all_is =
    record {
      files = files;
      are_files = are_files;
      in_lines = report;
      is_report = is_report;
      whole = whole_is none first middle third all report (exchanged_if (not (has_symbols t)) files) (unused_if (has_symbols t && is_all extent) files) (unused_given files given)
          empty is_first is_middle is_third all_is;
    }
