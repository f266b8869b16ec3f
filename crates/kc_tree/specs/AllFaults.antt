-- All faults of logical lines at once: this project's own, after docs/ERRORS.md. Lines that have problems have no tree, so
-- nothing more is said of them; a loop is sought where there is nothing else.
use Rattle.std.specs.Prelude.{◌≡◌, ◌⊎◌, ◌<◌, List, [], ◌∷◌, Option, Some, option_map, length, filter, filter_map, map, slice_get}
use Rattle.kc_text.specs.LineValue.{LineValue}
use Rattle.kc_statement.specs.Keywords.{is_choice}
use Rattle.kc_outline.specs.declared.fault.FaultyLine.{FaultyLine}
use Rattle.kc_outline.specs.FaultyLines.{AreLineFaults}
use Rattle.kc_outline.specs.TreeOf.{IsOutlineOf}
use Rattle.kc_outline.specs.TreeValue.{TreeValue, name_of}
use Rattle.kc_tree.specs.declared.fault.TreeFault.{TreeFault}
use Rattle.kc_tree.specs.declared.fault.TreeFault.TheVariants.{Line, Symbol, Choice, Loop}
use Rattle.kc_tree.specs.declared.outline_faults.OutlineFault.{OutlineFault}
use Rattle.kc_tree.specs.declared.outline_faults.OutlineFault.TheVariants as outline_problem
use Rattle.kc_tree.specs.Faults.{IsLoopless, IsNamedLoop}
use Rattle.kc_tree.specs.OutlineFaults.{outline_faults}
use Rattle.kc_tree.specs.Parsed.{IsTreeOf, IsOfLines, IsFaultOf, IsFirstFault}

-- ---- lines
-- a line with its problem, by the path and the number of the line
abbrev pub line_fault_at : List LineValue → FaultyLine → Option TreeFault
line_fault_at lines f = option_map (λ l. Line f.problem l.path l.number) (slice_get lines f.place)

-- each line that has a problem, in the order of the lines
pub record AreFaultsOfLines (lines : List LineValue) (faults : List TreeFault) : Type 0 where
  pub places : List FaultyLine
  pub are : AreLineFaults lines places
  pub some : 0 < length places
  pub is : faults ≡ filter_map (line_fault_at lines) places

-- ---- symbols and choices
-- a fault with the name of its symbol, or the path and the number of the one of these lines that begins its choice
abbrev pub reported : List LineValue → TreeValue → OutlineFault → Option TreeFault
reported choices t (outline_problem.Symbol problem s) = Some (Symbol problem (name_of t s))
reported choices t (outline_problem.Choice problem c) = option_map (λ l. Choice problem l.path l.number) (slice_get choices c.0)

-- faults are all reported, in their order
abbrev pub AreReported : List LineValue → TreeValue → List OutlineFault → List TreeFault → Type 0
AreReported lines t found faults = map Some faults ≡ map (reported (filter is_choice lines) t) found

-- ---- loops
-- one loop, or none where there is none
abbrev pub AreLoops : TreeValue → List TreeFault → Type 0
AreLoops t [] = IsLoopless t
AreLoops t (Loop nodes ∷ []) = IsNamedLoop t nodes.items
AreLoops t _ = ⊥

-- ---- all of them
-- those of symbols and choices, kind by kind; without one, those of the nodes
abbrev pub AreFaultsOfTree : List LineValue → TreeValue → List TreeFault → Type 0
AreFaultsOfTree lines t faults =
    ((0 < length faults) × AreReported lines t (outline_faults t) faults)
    ⊎ ((outline_faults t ≡ []) × AreLoops t faults)

pub record AreFaultsOfOutline (lines : List LineValue) (faults : List TreeFault) : Type 0 where
  pub tree : TreeValue
  pub outline : IsOutlineOf lines tree
  pub are : AreFaultsOfTree lines tree faults

-- those of lines; without one, those of what they define
abbrev pub AreFaultsOf : List LineValue → List TreeFault → Type 0
AreFaultsOf lines faults = AreFaultsOfLines lines faults ⊎ AreFaultsOfOutline lines faults

-- ---- what they are to the tree of the lines
-- the first of them is the fault for which the lines have no tree
pub record IsRefusal (lines : List LineValue) (f : TreeFault) : Type 0 where
  pub real : IsOfLines f
  pub fault : IsFaultOf lines f
  pub first : IsFirstFault lines f

-- without one the lines have a tree
abbrev pub AreRefusedForFirst : List LineValue → List TreeFault → Type 0
AreRefusedForFirst lines [] = (t : TreeValue) × IsTreeOf lines t
AreRefusedForFirst lines (f ∷ fs) = IsRefusal lines f
