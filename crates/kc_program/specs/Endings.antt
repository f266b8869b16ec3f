-- This project's own: how the program ends, and the exit status that says so.
use Rattle.std.specs.Prelude.{ℕ}
use Rattle.clap.specs.declared.error.kind.ErrorKind.{ErrorKind}
use Rattle.clap.specs.declared.error.kind.ErrorKind.TheVariants.{DisplayHelp, DisplayVersion, OutOfMemory}
use Rattle.kc_program.specs.declared.messages.Status.{Status}
use Rattle.kc_program.specs.declared.messages.Status.TheVariants.{Done, Fault, Usage}

-- the exit status
abbrev pub code_of : Status → ℕ
code_of Done = 0
code_of Fault = 1
code_of Usage = 2

-- what a parse of words gave in place of arguments: help is an answer, out of memory a fault, and all else a
-- mistake of usage
abbrev pub ending_of : ErrorKind → Status
ending_of DisplayHelp = Done
ending_of DisplayVersion = Done
ending_of OutOfMemory = Fault
ending_of _ = Usage
