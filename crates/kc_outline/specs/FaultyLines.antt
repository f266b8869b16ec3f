-- All lines that have a problem, each by itself: this project's own. A line is judged by the lines before it as they
-- are, whether or not those have problems, too.
use Rattle.std.specs.Prelude.{◌≡◌, ◌⊎◌, ℕ, true, ◌+◌, ◌<◌, ◌==◌, List, [], ◌∷◌, Some, All, AllPairs, Contains, length, slice_get}
use Rattle.kc_text.specs.LineValue.{LineValue}
use Rattle.kc_statement.specs.Names.{names_of}
use Rattle.kc_outline.specs.declared.fault.FaultyLine.{FaultyLine}
use Rattle.kc_outline.specs.declared.fault.LineProblem.{LineProblem}
use Rattle.kc_outline.specs.declared.fault.LineFault.TheVariants.{At}
use Rattle.kc_outline.specs.LineFaults.{HasProblem, opens_too_deep}
use Rattle.kc_outline.specs.Enclosing.{before, open_blocks}
use Rattle.kc_outline.specs.FirstProblem.{IsFirstLineFault, IsOnlyFault}
use Rattle.kc_outline.specs.TreeOf.{IsOutlineOf}
use Rattle.kc_outline.specs.TreeValue.{TreeValue}

-- the line at this place has this problem
pub record HasProblemAt (lines : List LineValue) (place : ℕ) (problem : LineProblem) : Type 0 where
  pub line : LineValue
  pub is : slice_get lines place ≡ Some line
  pub has : HasProblem (names_of lines) (before lines place) (place + 1 == length lines) line problem

-- an earlier line opens one block more than may be open
pub record IsAfterTooDeep (lines : List LineValue) (place : ℕ) : Type 0 where
  pub opener : ℕ
  pub earlier : opener < place
  pub line : LineValue
  pub is : slice_get lines opener ≡ Some line
  pub deep : opens_too_deep (open_blocks (before lines opener)) line ≡ true

-- each of these has its problem, each line that has one is among them with it, and they are in the order of the lines.
-- Nothing is read after a block that is too deep, and no line after it is among them: so these are one list.
pub record AreLineFaults (lines : List LineValue) (faults : List FaultyLine) : Type 0 where
  pub each : All (λ f. HasProblemAt lines f.place f.problem) faults
  pub read : All (λ f. IsAfterTooDeep lines f.place → ⊥) faults
  pub all : (place : ℕ) (problem : LineProblem) → HasProblemAt lines place problem
      → Contains faults (record { place = place; problem = problem }) ⊎ IsAfterTooDeep lines place
  pub in_order : AllPairs (λ f g. f.place < g.place) faults

-- this is the fault for which the lines are refused: that of the first line with one, and no other
pub record IsRefusal (lines : List LineValue) (f : FaultyLine) : Type 0 where
  pub line : LineValue
  pub is : slice_get lines f.place ≡ Some line
  pub first : IsFirstLineFault lines f.place f.problem line.path line.number
  pub only : IsOnlyFault lines (At f.problem line.path line.number)

-- the lines are refused for the first of these; without one they have an outline
abbrev pub AreRefusedForFirst : List LineValue → List FaultyLine → Type 0
AreRefusedForFirst lines [] = (t : TreeValue) × IsOutlineOf lines t
AreRefusedForFirst lines (f ∷ fs) = IsRefusal lines f
