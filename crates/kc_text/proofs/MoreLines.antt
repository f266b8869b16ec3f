-- The logical lines of files that become known as they are asked for.
use Rattle.std.proofs.Common.{ℕ, List, Result, Ok, Err, IfErr, IfOk}
use Rattle.kc_text.specs.declared.fault.LinesFault.{LinesFault}
use Rattle.kc_text.specs.declared.fault.LinesFault.TheVariants.{Text, Stopped}
use Rattle.kc_text.specs.Entries.{AreLines}
use Rattle.kc_text.specs.FileList.{File}
use Rattle.kc_text.specs.LineValue.{LineValue}
use Rattle.kc_text.specs.LinesFaults.{IsLinesFault}
use Rattle.kc_text.specs.MoreFiles.{Extends, GivesOverBy}
use Rattle.kc_text.specs.Names.{Environment}
use Rattle.kc_text.specs.Reading.{logical_lines_of}
use Rattle.kc_text.proofs.EntryLaws.{given_fault, given_lines}

module _ {X E : Type 0} (view : X → List LineValue) (known : List File) (outside : Environment) (top : List ℕ) where
  -- they are those of the files that are known, and of any more
  pub known_lines : (result : Result X (LinesFault E)) → GivesOverBy view result known (λ files. logical_lines_of files outside top)
      → IfOk result (λ x. (more : List File) → Extends known more → AreLines more outside top (view x))
  known_lines (Ok x) h = λ more e. given_lines more outside top {X = List LineValue} (λ v. v) (Ok (view x)) (h more e)
  known_lines (Err fault) h = tt

  -- or there is a fault
  pub known_fault : (result : Result X (LinesFault E)) → GivesOverBy view result known (λ files. logical_lines_of files outside top) → IfErr result (IsLinesFault known outside top)
  known_fault (Ok x) h = tt
  known_fault (Err (Text fault)) h = given_fault known outside top {X = List LineValue} (λ v. v) (Err fault) h
  known_fault (Err (Stopped why missing)) h = (h.0, given_fault known outside top {X = List LineValue} (λ v. v) (Err missing) h.1)
