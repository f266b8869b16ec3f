-- How a call tells its answer, this project's own: any call may find no memory left, and then says no more.
use Rattle.std.specs.Prelude.{◌≡◌, ℕ, List, Result, Ok, Err}
use Rattle.kc_text.specs.declared.fault.TextProblem.{TextProblem}
use Rattle.kc_text.specs.declared.fault.TextProblem.TheVariants.{Limit, BadCharacter, UnclosedQuote, MissingSource, RecursiveSource, BadReference, RecursiveVariable}
use Rattle.kc_text.specs.declared.fault.TextFault.{TextFault}
use Rattle.kc_text.specs.declared.fault.TextFault.TheVariants.{At, NoMemory}
use Rattle.kc_text.specs.declared.fault.LineFault.{LineFault}
use Rattle.kc_text.specs.declared.fault.LineFault.TheVariants.{Problem}
use Rattle.kc_text.specs.declared.fault.LineFault.TheVariants.{NoMemory as NoLineMemory}

-- the number that is printed for a problem
abbrev pub number_of : TextProblem → ℕ
number_of Limit = 1
number_of BadCharacter = 2
number_of UnclosedQuote = 3
number_of (MissingSource path) = 8
number_of RecursiveSource = 9
number_of BadReference = 10
number_of RecursiveVariable = 11

-- a call ends in a fault: it is the one that the definition gives, or there is no memory left
abbrev pub Fails : {A : Type 0} → TextFault → Result A TextFault → Type 0
Fails (At problem path line) given = given ≡ Err (At problem path line)
Fails NoMemory given = Unit {0}

-- the call gives what the definition gives, by what a view shows of its value
abbrev pub GivesBy : {X A : Type 0} → (X → A) → Result X TextFault → Result A TextFault → Type 0
GivesBy view (Ok x) given = given ≡ Ok (view x)
GivesBy view (Err f) given = Fails f given

-- the same of a call that changes a value and gives nothing more
abbrev pub GivesAfter : {A : Type 0} → Result (Unit {0}) TextFault → A → Result A TextFault → Type 0
GivesAfter (Ok _) after given = given ≡ Ok after
GivesAfter (Err f) after given = Fails f given

-- a problem at a line of a file, or no memory left to say so
abbrev pub IsFaultAt : TextFault → TextProblem → List ℕ → ℕ → Type 0
IsFaultAt (At problem path line) p q n = At problem path line ≡ At p q n
IsFaultAt NoMemory p q n = Unit {0}

-- what stands in a line is read as the definition gives it, by what a view shows of the value, or has its problem
abbrev pub ReadsBy : {X A : Type 0} → (X → A) → Result X LineFault → Result A TextProblem → Type 0
ReadsBy view (Ok x) given = given ≡ Ok (view x)
ReadsBy view (Err (Problem p)) given = given ≡ Err p
ReadsBy view (Err NoLineMemory) given = Unit {0}

-- the same of a call that changes a value and gives nothing more
abbrev pub ReadsAfter : {A : Type 0} → Result (Unit {0}) LineFault → A → Result A TextProblem → Type 0
ReadsAfter (Ok _) after given = given ≡ Ok after
ReadsAfter (Err (Problem p)) after given = given ≡ Err p
ReadsAfter (Err NoLineMemory) after given = Unit {0}
