-- What is answered for logical lines: their tree, or their first fault. This project's own, after
-- kconfig-language.rst.
use Rattle.std.specs.Prelude.{◌≡◌, ℕ, List, None}
use Rattle.kc_text.specs.LineValue.{LineValue}
use Rattle.kc_tree.specs.declared.fault.TreeFault.{TreeFault}
use Rattle.kc_tree.specs.declared.fault.TreeFault.TheVariants.{Line, Symbol, Choice, Loop, NoMemory}
use Rattle.kc_outline.specs.TreeValue.{TreeValue}
use Rattle.kc_outline.specs.TreeOf.{IsOutlineOf}
use Rattle.kc_tree.specs.OutlineFaults.{outline_fault}
use Rattle.kc_outline.specs.FirstProblem.{IsFirstLineFault}
use Rattle.kc_tree.specs.Faults.{IsTreeProblem, IsLoopless}

-- no line, no symbol, no choice and no node has a fault, and this is the tree of the lines
pub record IsTreeOf (lines : List LineValue) (t : TreeValue) : Type 0 where
  pub outline : IsOutlineOf lines t
  pub faultless : outline_fault t ≡ None
  pub loopless : IsLoopless t

-- a fault of what the lines say, none of which has a fault itself
pub record IsFaultOfOutline (lines : List LineValue) (fault : TreeFault) : Type 0 where
  pub tree : TreeValue
  pub outline : IsOutlineOf lines tree
  pub is : IsTreeProblem lines tree fault

-- The first fault of lines: that of the first line with one, else that of a symbol or a choice, else a loop. Out of
-- memory says nothing of the lines.
abbrev pub IsFaultOf : List LineValue → TreeFault → Type 0
IsFaultOf lines (Line problem path number) = (i : ℕ) × IsFirstLineFault lines i problem path number
IsFaultOf lines (Symbol problem name) = IsFaultOfOutline lines (Symbol problem name)
IsFaultOf lines (Choice problem path number) = IsFaultOfOutline lines (Choice problem path number)
IsFaultOf lines (Loop nodes) = IsFaultOfOutline lines (Loop nodes)
IsFaultOf lines NoMemory = Unit {0}

-- ---- there is one answer for lines
-- the fault says something of the lines: it is not out of memory
abbrev pub IsOfLines : TreeFault → Type 0
IsOfLines (Line problem path number) = Unit {0}
IsOfLines (Symbol problem name) = Unit {0}
IsOfLines (Choice problem path number) = Unit {0}
IsOfLines (Loop nodes) = Unit {0}
IsOfLines NoMemory = ⊥

-- two faults of lines are the same; of several loops any may be the one that is reported
abbrev pub AreOneFault : TreeFault → TreeFault → Type 0
AreOneFault (Loop nodes) (Loop others) = Unit {0}
AreOneFault f g = f ≡ g

-- the lines have this tree, no other, and no fault
pub record IsOnlyTree (lines : List LineValue) (t : TreeValue) : Type 0 where
  pub one : (s : TreeValue) → IsTreeOf lines s → s ≡ t
  pub faultless : (f : TreeFault) → IsOfLines f → IsFaultOf lines f → ⊥

-- the lines have this first fault, no other, and no tree
pub record IsOnlyFault (lines : List LineValue) (f : TreeFault) : Type 0 where
  pub one : (g : TreeFault) → IsOfLines g → IsFaultOf lines g → AreOneFault g f
  pub treeless : (t : TreeValue) → IsTreeOf lines t → ⊥

-- what is said where lines have no tree: out of memory says nothing
abbrev pub IsFirstFault : List LineValue → TreeFault → Type 0
IsFirstFault lines NoMemory = Unit {0}
IsFirstFault lines fault = IsOnlyFault lines fault
