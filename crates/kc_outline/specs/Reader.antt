-- Steps: what is known while lines are read. No public contract reaches it.
use Rattle.std.specs.Prelude.{◌≡◌, ℕ, ◌+◌, ◌==◌, Bool, true, false, ◌||◌, List, [], ◌∷◌, ◌++◌, Option, Some, None, if◌then◌else◌, reverse}
use Rattle.kc_text.specs.LineValue.{LineValue}
use Rattle.kc_outline.specs.declared.fault.FaultyLine.{FaultyLine}
use Rattle.kc_outline.specs.declared.fault.LineFault.{LineFault}
use Rattle.kc_outline.specs.declared.fault.LineFault.TheVariants as fault
use Rattle.kc_outline.specs.declared.fault.LineProblem.{LineProblem}
use Rattle.kc_outline.specs.declared.fault.LineProblem.TheVariants.{Limit, Malformed}
use Rattle.kc_outline.specs.declared.id.BlockId.{BlockId}
use Rattle.kc_outline.specs.declared.id.ChoiceId.{ChoiceId}
use Rattle.kc_outline.specs.declared.context.Context.{Context}
use Rattle.kc_outline.specs.declared.context.Owner.{Owner}
use Rattle.kc_statement.specs.declared.id.SymId.{SymId}
use Rattle.kc_statement.specs.declared.keyword.Keyword.{Keyword}
use Rattle.kc_outline.specs.declared.stop.Stop.{Stop}
use Rattle.kc_outline.specs.declared.stop.Stop.TheVariants.{Problem, Form, NoMemory}
use Rattle.kc_statement.specs.declared.statement.Statement.{Statement}
use Rattle.kc_statement.specs.LineParts.{SaysOnly}
use Rattle.kc_statement.specs.Statements.{HasForm, HasNoForm}
use Rattle.kc_outline.specs.Adding.{with_reading}
use Rattle.kc_statement.specs.Keywords.{is_attribute_word}
use Rattle.kc_outline.specs.ContextAfter.{owner_made}
use Rattle.kc_outline.specs.Enclosing.{choice_among, innermost}
use Rattle.kc_outline.specs.LineFaults.{HasProblem, IsSound, is_no_choice_default, is_past_limit, opens_too_deep}
use Rattle.kc_outline.specs.Stops.{problem_in}
use Rattle.kc_outline.specs.TreeOf.{Reading, IsReading, defined_in, tree_of}
use Rattle.kc_outline.specs.Outline.{AreMade}
use Rattle.kc_outline.specs.TreeValue.{TreeValue}

-- no line has a problem, and each is read as its reading; the last come first, and `following` lines come after them
abbrev pub AreReadingsBefore : List (List ℕ) → ℕ → List LineValue → List Reading → Type 0
AreReadingsBefore names following [] [] = Unit {0}
AreReadingsBefore names following [] (r ∷ rs) = ⊥
AreReadingsBefore names following (l ∷ earlier) [] = ⊥
AreReadingsBefore names following (l ∷ earlier) (r ∷ rs) =
    IsReading names earlier (following == 0) l r × AreReadingsBefore names (following + 1) earlier rs

-- the line says nothing else
abbrev pub IsOnlyForm : List (List ℕ) → LineValue → Statement → Type 0
IsOnlyForm names l s = (other : Statement) → HasForm names l other → other ≡ s

-- no line says anything but what its reading says
abbrev pub AreOnlyForms : List (List ℕ) → List LineValue → List Reading → Type 0
AreOnlyForms names [] rs = Unit {0}
AreOnlyForms names (l ∷ earlier) [] = ⊥
AreOnlyForms names (l ∷ earlier) (r ∷ rs) = IsOnlyForm names l r.statement × AreOnlyForms names earlier rs

-- the lines before, the last first, are read, and the outline is their tree
pub record IsOutlineAfter (names : List (List ℕ)) (following : ℕ) (earlier : List LineValue) (t : TreeValue) : Type 0 where
  pub readings : List Reading
  pub read : AreReadingsBefore names following earlier (reverse readings)
  pub only : AreOnlyForms names earlier (reverse readings)
  pub tree : t ≡ tree_of names readings
  pub made : AreMade readings

-- the line has this problem alone
pub record IsOnlyProblem (names : List (List ℕ)) (earlier : List LineValue) (is_last : Bool) (l : LineValue) (problem : LineProblem) : Type 0 where
  pub has : HasProblem names earlier is_last l problem
  pub only : (other : LineProblem) → HasProblem names earlier is_last l other → other ≡ problem
  pub unsound : (s : Statement) → IsSound names earlier is_last l s → ⊥

-- the line says one statement, which a `choice` as the nearest one before it does not refuse, and the outline got its reading
pub record IsAdded (nearest : Option Keyword) (block : Option BlockId) (choice : Option ChoiceId) (owner : Option Owner) (l : LineValue) (old new : TreeValue) : Type 0 where
  pub statement : Statement
  pub says : SaysOnly old.names l statement
  pub fits : is_no_choice_default nearest statement ≡ false
  pub few : is_past_limit statement ≡ false
  pub tree : new ≡ with_reading old (record { statement = statement; block = block; choice = choice; owner = owner })

-- the line of an attribute is not added, and the outline is as it was: it has no form, or such a `choice` refuses what it says
abbrev pub IsNotAdded : Option Keyword → TreeValue → TreeValue → LineValue → Stop → Type 0
IsNotAdded nearest old new l (Problem problem) =
    ((problem ≡ Malformed) × (s : Statement) × SaysOnly old.names l s × (is_no_choice_default nearest s ≡ true)) × (new ≡ old)
IsNotAdded nearest old new l (Form m) = HasNoForm old.names l × (new ≡ old)
IsNotAdded nearest old new l NoMemory = Unit {0}

-- the line of a statement is not added, and the outline is as it was: it has no form, or passes a limit
abbrev pub IsRefused : Option Keyword → Bool → TreeValue → TreeValue → LineValue → Stop → Type 0
IsRefused nearest deep old new l (Problem problem) =
    ((problem ≡ Limit) × (s : Statement) × SaysOnly old.names l s × (is_no_choice_default nearest s ≡ false) × ((deep || is_past_limit s) ≡ true)) × (new ≡ old)
IsRefused nearest deep old new l (Form m) = HasNoForm old.names l × (new ≡ old)
IsRefused nearest deep old new l NoMemory = Unit {0}

-- a line that is not added for its form says nothing, and one that is not added for another problem says one statement
abbrev pub IsSaidUnless : List (List ℕ) → LineValue → Stop → Type 0
IsSaidUnless names l (Problem problem) = (s : Statement) × SaysOnly names l s
IsSaidUnless names l (Form m) = HasNoForm names l
IsSaidUnless names l NoMemory = Unit {0}

-- what owns the lines after a line of a keyword, which may define a symbol; a line without one ends what was owned
abbrev pub owner_after : Context → Option Keyword → Option SymId → Option Owner
owner_after p None symbol = None
owner_after p (Some k) symbol =
    if is_attribute_word k then p.owner else owner_made k symbol p.definitions p.blocks p.choices p.comments

-- the line of a statement was added in its place, and opens no block too many
pub record IsEntered (p : Context) (k : Keyword) (symbol : Option SymId) (l : LineValue) (old new : TreeValue) : Type 0 where
  pub added : IsAdded p.statement (innermost p.stack) (choice_among p.stack) (owner_made k symbol p.definitions p.blocks p.choices p.comments) l old new
  pub shallow : opens_too_deep p.stack l ≡ false
  pub symbol_is : symbol ≡ defined_in added.statement

-- a line is not taken for a problem that it has, or for lack of memory
abbrev pub IsStopFor : List (List ℕ) → List LineValue → Bool → LineValue → Option LineProblem → Type 0
IsStopFor names earlier is_last l (Some problem) = IsOnlyProblem names earlier is_last l problem
IsStopFor names earlier is_last l None = Unit {0}

abbrev pub IsStop : List (List ℕ) → List LineValue → Bool → LineValue → Stop → Type 0
IsStop names earlier is_last l stop = IsStopFor names earlier is_last l (problem_in stop)

-- nothing has changed, where the line was not taken for a problem
abbrev pub IsUnchanged : Stop → TreeValue → TreeValue → Context → Context → Type 0
IsUnchanged stop old new p q = (problem : LineProblem) → problem_in stop ≡ Some problem → (new ≡ old) × (q ≡ p)

-- what is found of a line: that it has this problem alone, or none, and then what it says
abbrev pub IsFound : List (List ℕ) → List LineValue → Bool → LineValue → Option LineProblem → Type 0
IsFound names earlier is_last l None = (s : Statement) × IsSound names earlier is_last l s × IsOnlyForm names l s
IsFound names earlier is_last l (Some problem) = IsOnlyProblem names earlier is_last l problem

-- the faults so far, with what is found of the line at a place
abbrev pub faults_with : List FaultyLine → ℕ → Option LineProblem → List FaultyLine
faults_with fs place None = fs
faults_with fs place (Some problem) = fs ++ record { place = place; problem = problem } ∷ []

-- the fault tells the problem, with the line's path and number, if memory serves
abbrev pub IsProblemReported : LineProblem → LineValue → LineFault → Type 0
IsProblemReported problem l (fault.At reported path number) = (reported ≡ problem) × (path ≡ l.path) × (number ≡ l.number)
IsProblemReported problem l fault.NoMemory = Unit {0}

abbrev pub IsReportedAs : Option LineProblem → LineValue → LineFault → Type 0
IsReportedAs (Some problem) l reported = IsProblemReported problem l reported
IsReportedAs None l reported = reported ≡ fault.NoMemory

abbrev pub IsReportedFor : Stop → LineValue → LineFault → Type 0
IsReportedFor stop l reported = IsReportedAs (problem_in stop) l reported
