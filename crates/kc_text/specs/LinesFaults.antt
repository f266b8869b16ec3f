-- Why files that are read as they are asked for have no logical lines: this project's own.
use Rattle.std.specs.Prelude.{ℕ, List}
use Rattle.kc_text.specs.declared.fault.LinesFault.{LinesFault}
use Rattle.kc_text.specs.declared.fault.LinesFault.TheVariants.{Text, Stopped}
use Rattle.kc_text.specs.Entries.{IsTextFault}
use Rattle.kc_text.specs.FileList.{File}
use Rattle.kc_text.specs.MoreFiles.{IsFileFaultFor}
use Rattle.kc_text.specs.Names.{Environment}

-- the first fault of the top file, or a file that cannot be read whose lack is that fault
abbrev pub IsLinesFault : {E : Type 0} → List File → Environment → List ℕ → LinesFault E → Type 0
IsLinesFault files outside top (Text fault) = IsTextFault files outside top fault
IsLinesFault files outside top (Stopped why missing) = IsFileFaultFor why missing × IsTextFault files outside top missing
