-- How a search for wanted values ends: this project's own.
use Rattle.std.specs.Prelude.{List}
use Rattle.kc_outline.specs.TreeValue.{TreeValue}
use Rattle.kc_files.specs.declared.assign.Assign.{Assign}
use Rattle.kc_how.specs.Impossible.{IsImpossible}
use Rattle.kc_program.specs.declared.how.Ending.{Ending}
use Rattle.kc_program.specs.declared.how.Ending.TheVariants.{NotFound, GaveUp, Impossible}

-- it is called impossible only where no user values give the wanted value of the index
abbrev pub IsRightEnding : TreeValue → List Assign → Ending → Type 0
IsRightEnding t wanted NotFound = Unit {0}
IsRightEnding t wanted GaveUp = Unit {0}
IsRightEnding t wanted (Impossible i) = IsImpossible t wanted i
