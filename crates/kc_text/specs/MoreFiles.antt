-- What is read of files that become known as they are asked for, this project's own: it is the same with any files more.
use Rattle.std.specs.Prelude.{◌≡◌, ℕ, List, Some, Result, Ok, Err}
use Rattle.kc_text.specs.declared.fault.TextProblem.TheVariants.{Limit, BadCharacter, UnclosedQuote, MissingSource, RecursiveSource, BadReference, RecursiveVariable}
use Rattle.kc_text.specs.declared.fault.TextFault.{TextFault}
use Rattle.kc_text.specs.declared.fault.TextFault.TheVariants.{At, NoMemory}
use Rattle.kc_text.specs.declared.fault.FileFault.{FileFault}
use Rattle.kc_text.specs.declared.fault.FileFault.TheVariants.{Files, Folder}
use Rattle.kc_text.specs.declared.fault.LinesFault.{LinesFault}
use Rattle.kc_text.specs.declared.fault.LinesFault.TheVariants.{Text, Stopped}
use Rattle.kc_text.specs.Faults.{Fails}
use Rattle.kc_text.specs.FileList.{File}
use Rattle.kc_text.specs.Sources.{text_of}

-- each file with its text is among more files
abbrev pub Extends : List File → List File → Type 0
Extends files more = (q t : List ℕ) → text_of q files ≡ Some t → text_of q more ≡ Some t

-- a file of a path cannot be read: a limit that it passes is that of its path, at line 0
abbrev pub IsFileFaultOf : {E : Type 0} → FileFault E → List ℕ → Type 0
IsFileFaultOf (Files (At problem q line)) path = At problem q line ≡ At Limit path 0
IsFileFaultOf (Files NoMemory) path = Unit {0}
IsFileFaultOf (Folder fault) path = Unit {0}

-- a file that cannot be read is the one that is missing
abbrev pub IsFileFaultFor : {E : Type 0} → FileFault E → TextFault → Type 0
IsFileFaultFor why (At (MissingSource path) file line) = IsFileFaultOf why path
IsFileFaultFor why (At Limit file line) = ⊥
IsFileFaultFor why (At BadCharacter file line) = ⊥
IsFileFaultFor why (At UnclosedQuote file line) = ⊥
IsFileFaultFor why (At RecursiveSource file line) = ⊥
IsFileFaultFor why (At BadReference file line) = ⊥
IsFileFaultFor why (At RecursiveVariable file line) = ⊥
IsFileFaultFor why NoMemory = Unit {0}

-- a call ends in a fault: it is the one that the definition gives, or a file cannot be read whose lack is that fault
abbrev pub FailsFor : {E A : Type 0} → LinesFault E → Result A TextFault → Type 0
FailsFor (Text fault) given = Fails fault given
FailsFor (Stopped why missing) given = IsFileFaultFor why missing × Fails missing given

-- the call gives what the definition gives of the files that are known and of any more, by what a view shows of its value
abbrev pub GivesOverBy : {X E A : Type 0} → (X → A) → Result X (LinesFault E) → List File → (List File → Result A TextFault) → Type 0
GivesOverBy view (Ok x) known given = (more : List File) → Extends known more → given more ≡ Ok (view x)
GivesOverBy view (Err fault) known given = FailsFor fault (given known)

-- the same of a call that changes a value and gives nothing more
abbrev pub GivesOver : {E A : Type 0} → Result (Unit {0}) (LinesFault E) → A → List File → (List File → Result A TextFault) → Type 0
GivesOver (Ok _) after known given = (more : List File) → Extends known more → given more ≡ Ok after
GivesOver (Err fault) after known given = FailsFor fault (given known)
