-- What stops the reading of lines: the first line with a problem. This project's own list of problems, after
-- kconfig-language.rst.
use Rattle.std.specs.Prelude.{◌≡◌, ◌⊎◌, ℕ, ◌+◌, ◌==◌, List, Some, length, slice_get}
use Rattle.kc_text.specs.LineValue.{LineValue}
use Rattle.kc_statement.specs.Names.{names_of}
use Rattle.kc_outline.specs.declared.fault.LineProblem.{LineProblem}
use Rattle.kc_outline.specs.declared.fault.LineFault.{LineFault}
use Rattle.kc_outline.specs.declared.fault.LineFault.TheVariants.{At, NoMemory}
use Rattle.kc_outline.specs.LineFaults.{HasProblem}
use Rattle.kc_outline.specs.Enclosing.{before}
use Rattle.kc_outline.specs.TreeOf.{Reading, AreFirstReadings, IsOutlineOf}
use Rattle.kc_outline.specs.TreeValue.{TreeValue}

-- line i has this problem, and the lines before it have none
pub record IsFirstLineFault (lines : List LineValue) (i : ℕ) (problem : LineProblem) (path : List ℕ) (number : ℕ) : Type 0 where
  pub line : LineValue
  pub is : slice_get lines i ≡ Some line
  pub path_is : path ≡ line.path
  pub number_is : number ≡ line.number
  pub here : HasProblem (names_of lines) (before lines i) (i + 1 == length lines) line problem
  pub readings : List Reading
  pub earlier : AreFirstReadings lines i readings

-- the fault of the first line with one; out of memory says nothing of the lines
abbrev pub IsReadFault : List LineValue → LineFault → Type 0
IsReadFault lines (At problem path number) = (i : ℕ) × IsFirstLineFault lines i problem path number
IsReadFault lines NoMemory = Unit {0}

-- the lines have this fault alone: they have no tree, and no other fault but that memory is refused
pub record IsOnlyFault (lines : List LineValue) (fault : LineFault) : Type 0 where
  pub treeless : (t : TreeValue) → IsOutlineOf lines t → ⊥
  pub alone : (f : LineFault) → IsReadFault lines f → (f ≡ fault) ⊎ (f ≡ NoMemory)

-- the lines are refused for a fault of a line alone; out of memory says nothing of the lines
abbrev pub AreRefusedFor : List LineValue → LineFault → Type 0
AreRefusedFor lines (At problem path number) = IsOnlyFault lines (At problem path number)
AreRefusedFor lines NoMemory = Unit {0}
