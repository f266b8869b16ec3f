-- This project's own: the session of the texts of a Kconfig, or why there is none.
use Rattle.std.specs.Prelude.{◌≡◌, ℕ, ◌≤◌, true, false, List, length}
use Rattle.kc_text.specs.LineValue.{LineValue}
use Rattle.kc_text.specs.FileList.{File}
use Rattle.kc_text.specs.Names.{texts_in}
use Rattle.kc_text.specs.Entries.{AreLines, IsFirstTextFault}
use Rattle.kc_tree.specs.declared.fault.TreeFault.{TreeFault}
use Rattle.kc_tree.specs.Parsed.{IsTreeOf, IsFaultOf, IsOfLines, AreOneFault, IsFirstFault}
use Rattle.kc_session.specs.declared.opening.OpenFault.{OpenFault}
use Rattle.kc_session.specs.declared.opening.OpenFault.TheVariants.{Text, Tree, Limit, NoMemory}
use Rattle.kc_outline.specs.Blocks.{AreBlocksEnclosing, AreOpenAt}
use Rattle.kc_outline.specs.TreeValue.{TreeValue}
use Rattle.kc_value.specs.UserValues.{UserValues, no_values}
use Rattle.kc_files.specs.Loading.{user_after}
use Rattle.kc_files.specs.declared.loading.Load.TheVariants.{Replace}
use Rattle.kc_files.specs.OneReading.{assigns_in}
use Rattle.kc_session.specs.Bodies.{fits_body}
use Rattle.kc_session.specs.Session.{SessionValue}

-- the user values that a `.config` gives a tree without any
abbrev pub user_of_config : TreeValue → List ℕ → List ℕ → UserValues
user_of_config t prefix config = user_after t (no_values t) Replace (assigns_in t prefix config)

-- The texts have logical lines with the variables that are passed in, and these have a tree: that of the session. Its user
-- values are those of the `.config`, which is not too long.
pub record IsOpened (files vars : List File) (top prefix config : List ℕ) (s : SessionValue) : Type 0 where
  pub lines : List LineValue
  pub lines_are : AreLines files (texts_in vars) top lines
  pub tree : IsTreeOf lines s.tree
  pub session : s ≡ record { tree = s.tree; user = user_of_config s.tree prefix config; prefix = prefix }
  pub fits : fits_body config ≡ true

-- The blocks that are open at each of the lines are those that the lines around it open, and what the tree defines is in
-- those blocks.
pub record AreEnclosed (lines : List LineValue) (t : TreeValue) : Type 0 where
  pub at_each : (j : ℕ) → j ≤ length lines → AreOpenAt lines j
  pub blocks : AreBlocksEnclosing lines t

-- the same of the logical lines of the texts
abbrev pub AreTextsEnclosed : List File → List File → List ℕ → TreeValue → Type 0
AreTextsEnclosed files vars top t = (lines : List LineValue) → AreLines files (texts_in vars) top lines → AreEnclosed lines t

-- the first fault of the lines
pub record HasTreeFault (files vars : List File) (top : List ℕ) (fault : TreeFault) : Type 0 where
  pub lines : List LineValue
  pub lines_are : AreLines files (texts_in vars) top lines
  pub fault_is : IsFaultOf lines fault
  pub of_lines : IsOfLines fault

-- the first fault of the texts
abbrev pub IsTextFaultOf : List File → List File → List ℕ → OpenFault → Type 0
IsTextFaultOf files vars top (Text fault) = IsFirstTextFault files (texts_in vars) top fault
IsTextFaultOf files vars top (Tree fault) = ⊥
IsTextFaultOf files vars top Limit = ⊥
IsTextFaultOf files vars top NoMemory = Unit {0}

-- what stops the lines from having a tree
abbrev pub IsTreeFaultOf : List LineValue → OpenFault → Type 0
IsTreeFaultOf lines (Text fault) = ⊥
IsTreeFaultOf lines (Tree fault) = IsFaultOf lines fault × IsOfLines fault
IsTreeFaultOf lines Limit = ⊥
IsTreeFaultOf lines NoMemory = Unit {0}

-- what stops a `.config` from being loaded
abbrev pub IsConfigFault : List ℕ → OpenFault → Type 0
IsConfigFault config (Text fault) = ⊥
IsConfigFault config (Tree fault) = ⊥
IsConfigFault config Limit = fits_body config ≡ false
IsConfigFault config NoMemory = Unit {0}

-- the texts have a tree, and the `.config` is too long
pub record HasLongConfig (files vars : List File) (top config : List ℕ) : Type 0 where
  pub lines : List LineValue
  pub lines_are : AreLines files (texts_in vars) top lines
  pub tree : TreeValue
  pub tree_is : IsTreeOf lines tree
  pub is_long : fits_body config ≡ false

-- the first fault of the texts, or else of their lines, or else that the `.config` is too long; out of memory says nothing
abbrev pub IsOpenFault : List File → List File → List ℕ → List ℕ → OpenFault → Type 0
IsOpenFault files vars top config (Text fault) = IsFirstTextFault files (texts_in vars) top fault
IsOpenFault files vars top config (Tree fault) = HasTreeFault files vars top fault
IsOpenFault files vars top config Limit = HasLongConfig files vars top config
IsOpenFault files vars top config NoMemory = Unit {0}

-- ---- there is one answer for texts, variables and a `.config`
-- the first fault that stops the lines from having a tree is the only one; out of memory says nothing
abbrev pub IsOnlyTreeFault : List LineValue → OpenFault → Type 0
IsOnlyTreeFault lines (Tree fault) = IsFirstFault lines fault
IsOnlyTreeFault lines fault = Unit {0}

-- the fault says something of the texts: it is not out of memory
abbrev pub IsOfTexts : OpenFault → Type 0
IsOfTexts (Text fault) = Unit {0}
IsOfTexts (Tree fault) = Unit {0}
IsOfTexts Limit = Unit {0}
IsOfTexts NoMemory = ⊥

-- two faults are the same; of several loops any may be the one that is reported
abbrev pub AreOneOpenFault : OpenFault → OpenFault → Type 0
AreOneOpenFault (Tree f) (Tree g) = AreOneFault f g
AreOneOpenFault f g = f ≡ g

-- the texts give this session, no other, and no fault
pub record IsOnlySession (files vars : List File) (top prefix config : List ℕ) (s : SessionValue) : Type 0 where
  pub one : (other : SessionValue) → IsOpened files vars top prefix config other → other ≡ s
  pub faultless : (f : OpenFault) → IsOfTexts f → IsOpenFault files vars top config f → ⊥

-- the texts have this first fault, no other, and give no session
pub record IsOnlyOpenFault (files vars : List File) (top prefix config : List ℕ) (f : OpenFault) : Type 0 where
  pub one : (g : OpenFault) → IsOfTexts g → IsOpenFault files vars top config g → AreOneOpenFault g f
  pub sessionless : (s : SessionValue) → IsOpened files vars top prefix config s → ⊥

-- what is said where texts give no session: out of memory says nothing
abbrev pub IsFirstOpenFault : List File → List File → List ℕ → List ℕ → List ℕ → OpenFault → Type 0
IsFirstOpenFault files vars top prefix config NoMemory = Unit {0}
IsFirstOpenFault files vars top prefix config fault = IsOnlyOpenFault files vars top prefix config fault

-- ---- the same of logical lines that were read before
-- The lines have a tree: that of the session. Its user values are those of the `.config`, which is not too long.
pub record IsOpenedFrom (lines : List LineValue) (prefix config : List ℕ) (s : SessionValue) : Type 0 where
  pub tree : IsTreeOf lines s.tree
  pub session : s ≡ record { tree = s.tree; user = user_of_config s.tree prefix config; prefix = prefix }
  pub fits : fits_body config ≡ true

-- the lines have a tree, and the `.config` is too long
pub record IsLongFor (lines : List LineValue) (config : List ℕ) : Type 0 where
  pub tree : TreeValue
  pub tree_is : IsTreeOf lines tree
  pub is_long : fits_body config ≡ false

-- the first fault of the lines, or else that the `.config` is too long; out of memory says nothing
abbrev pub IsFaultFrom : List LineValue → List ℕ → OpenFault → Type 0
IsFaultFrom lines config (Text fault) = ⊥
IsFaultFrom lines config (Tree fault) = IsFaultOf lines fault × IsOfLines fault
IsFaultFrom lines config Limit = IsLongFor lines config
IsFaultFrom lines config NoMemory = Unit {0}

-- the lines give this session, no other, and no fault
pub record IsOnlySessionFrom (lines : List LineValue) (prefix config : List ℕ) (s : SessionValue) : Type 0 where
  pub one : (other : SessionValue) → IsOpenedFrom lines prefix config other → other ≡ s
  pub faultless : (f : OpenFault) → IsOfTexts f → IsFaultFrom lines config f → ⊥

-- the lines have this first fault, no other, and give no session
pub record IsOnlyFaultFrom (lines : List LineValue) (prefix config : List ℕ) (f : OpenFault) : Type 0 where
  pub one : (g : OpenFault) → IsOfTexts g → IsFaultFrom lines config g → AreOneOpenFault g f
  pub sessionless : (s : SessionValue) → IsOpenedFrom lines prefix config s → ⊥

-- what is said where lines give no session: out of memory says nothing
abbrev pub IsFirstFaultFrom : List LineValue → List ℕ → List ℕ → OpenFault → Type 0
IsFirstFaultFrom lines prefix config NoMemory = Unit {0}
IsFirstFaultFrom lines prefix config fault = IsOnlyFaultFrom lines prefix config fault
