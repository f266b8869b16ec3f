-- What is found in a `.config`, in the order of its lines: this project's own, by docs/ERRORS.md, "Findings of `check`".
use Rattle.std.specs.Prelude.{ℕ, ◌-◌, List, ◌++◌, Option, flat_map, map, option_map, option_to_list, slice_get}
use Rattle.std.specs.List.Sorted.{IsPermutation, IsSortedByKey, IsStableByKey}
use Rattle.std.specs.Ordering.{nat_cmp}
use Rattle.kc_outline.specs.TreeValue.{TreeValue}
use Rattle.kc_files.specs.DroppedBackslashes.{dropped_backslashes}
use Rattle.kc_files.specs.LineFacts.{found_in_lines}
use Rattle.kc_files.specs.MeantComments.{meant_comments}
use Rattle.kc_files.specs.declared.config_findings.ConfigFinding.{ConfigFinding}
use Rattle.kc_files.specs.declared.config_findings.ConfigFinding.TheVariants as finding
use Rattle.kc_files.specs.declared.config_findings.FoundInConfig.{FoundInConfig}
use Rattle.kc_files.specs.declared.fragments.FragmentLine.{FragmentLine}
use Rattle.kc_files.specs.declared.line_facts.FoundInLine.{FoundInLine}
use Rattle.kc_files.specs.declared.lost_backslashes.DroppedBackslash.{DroppedBackslash}
use Rattle.kc_files.specs.declared.outcomes.Outcome.{Outcome}
use Rattle.kc_files.specs.declared.unset_comments.MeantComment.{MeantComment}

-- how many lines come before the one of an index among those that say something
abbrev pub count_before : List FragmentLine → ℕ → Option ℕ
count_before said i = option_map (λ l. l.line.number - 1) (slice_get said i)

-- something in the line that so many come before, if there is one
abbrev pub found_after : Option ℕ → ConfigFinding → List FoundInConfig
found_after before f = option_to_list (option_map (λ n. record { before = n; finding = f }) before)

-- ---- where each kind is
abbrev pub comment_found : MeantComment → FoundInConfig
comment_found c = record { before = c.line; finding = finding.Comment c }

abbrev pub fact_found : List FragmentLine → FoundInLine → List FoundInConfig
fact_found said f = found_after (count_before said f.line) (finding.Line f)

abbrev pub dropped_found : List FragmentLine → DroppedBackslash → List FoundInConfig
dropped_found said d = found_after (count_before said d.line) (finding.Dropped d)

-- kind after kind, in the order that what is found in one line has
abbrev pub config_findings : TreeValue → List ℕ → List ℕ → List FragmentLine → List Outcome → List FoundInConfig
config_findings t prefix text said os =
    map comment_found (meant_comments t prefix text)
    ++ flat_map (fact_found said) (found_in_lines said os)
    ++ flat_map (dropped_found said) (dropped_backslashes t prefix text said)

abbrev pub before_in : FoundInConfig → ℕ
before_in f = f.before

-- a list has what another one has, line by line, and what is in one line in the order of the other
pub record AreByLine (all ordered : List FoundInConfig) : Type 0 where
  pub permuted : IsPermutation all ordered
  pub sorted : IsSortedByKey before_in nat_cmp ordered
  pub stable : IsStableByKey before_in nat_cmp all ordered
