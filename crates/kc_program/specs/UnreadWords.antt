-- This project's own: how the program ends where the words of its command line can't be read.
use Rattle.std.specs.declared.io.ErrorKind.{ErrorKind}
use Rattle.std.specs.declared.io.ErrorKind.TheVariants.{OutOfMemory}
use Rattle.kc_program.specs.declared.messages.Status.{Status}
use Rattle.kc_program.specs.declared.messages.Status.TheVariants.{Fault, Usage}

-- by why they can't: a word that is not UTF-8 is a mistake of usage
abbrev pub ending_without_words : ErrorKind → Status
ending_without_words OutOfMemory = Fault
ending_without_words _ = Usage
