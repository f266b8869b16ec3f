-- Which lines a message names: this project's own.
use Rattle.std.specs.Prelude.{◌≡◌, ℕ, List, true, Some, All, slice_get}
use Rattle.kc_text.specs.LineValue.{LineValue}
use Rattle.kc_lines.specs.declared.explanation.Remark.{Remark}
use Rattle.kc_lines.specs.declared.shown.Fault.{Fault}
use Rattle.kc_lines.specs.Shown.{shows}

-- a remark has the place of one of the lines, which shows the fault
pub record IsRemarkOf (fault : Fault) (lines : List LineValue) (remark : Remark) : Type 0 where
  pub number : ℕ
  pub line : LineValue
  pub line_is : slice_get lines number ≡ Some line
  pub shown : shows fault line ≡ true
  pub path_is : remark.place.path ≡ line.path
  pub number_is : remark.place.line ≡ line.number

-- each remark does
abbrev pub AreRemarksOf : Fault → List LineValue → List Remark → Type 0
AreRemarksOf fault lines remarks = All (IsRemarkOf fault lines) remarks
