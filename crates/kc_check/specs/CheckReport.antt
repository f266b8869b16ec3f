-- What `check` says of a Kconfig: this project's own, by docs/ERRORS.md, "Findings of `check`".
use Rattle.std.specs.Prelude.{◌≡◌, ℕ, Bool, not, ◌&&◌, ◌==◌, List, [], ◌++◌, if◌then◌else◌, length, map, true, false}
use Rattle.std.specs.List.{AllZip}
use Rattle.std.specs.Str.Lines.{lines}
use Rattle.kc_text.specs.LineValue.{LineValue}
use Rattle.kc_outline.specs.TreeValue.{TreeValue}
use Rattle.kc_value.specs.Assignment.{Assignment}
use Rattle.kc_line_facts.specs.declared.listed_names.Extent.{Extent}
use Rattle.kc_line_facts.specs.declared.listed_names.Extent.TheVariants.{All, Near}
use Rattle.kc_line_facts.specs.declared.read_order.VariableFile.{VariableFile}
use Rattle.kc_line_facts.specs.FileVariables.{HaveVariables}
use Rattle.kc_check.specs.declared.finding.Finding.{Finding}
use Rattle.kc_check.specs.declared.inputs.SourceText.{SourceText}
use Rattle.kc_check.specs.TreeReport.{IsListedReport}
use Rattle.kc_check.specs.UnusedVariables.{About, about, about_exchanged, unused_definitions, unused_given}

-- the variables of a file are those of its text
abbrev pub IsFileOf : SourceText → VariableFile → Type 0
IsFileOf s f = (f.path.now ≡ s.path.now) × HaveVariables 0 (lines s.text.now) f.found.uses.items f.found.definitions.items f.found.sources.items

abbrev pub has_symbols : TreeValue → Bool
has_symbols t = not (length t.symbols == 0)

abbrev pub is_all : Extent → Bool
is_all All = true
is_all Near = false

-- a Kconfig without symbols that defines variables, as a `.config` does
abbrev pub exchanged_if : Bool → List VariableFile → List About
exchanged_if is files = if is then about_exchanged files else []

-- definitions that no line uses, of a Kconfig with symbols where all is listed
abbrev pub unused_if : Bool → List VariableFile → List About
unused_if is files = if is then unused_definitions files else []

-- first that the Kconfig defines no symbol, then what is found in its lines, and then variables that no line uses, which are
-- defined and which are given
pub record IsCheckReport (sources : List SourceText) (lines : List LineValue) (t : TreeValue) (a : Assignment) (given : List (List ℕ)) (prefix : List ℕ) (extent : Extent) (findings : List Finding) : Type 0 where
  pub files : List VariableFile
  pub are_files : AllZip IsFileOf sources files
  pub in_lines : List Finding
  pub is_report : IsListedReport lines t a files given prefix extent in_lines
  pub whole : map about findings ≡ exchanged_if (not (has_symbols t)) files
      ++ (map about in_lines ++ (unused_if (has_symbols t && is_all extent) files ++ unused_given files given))
