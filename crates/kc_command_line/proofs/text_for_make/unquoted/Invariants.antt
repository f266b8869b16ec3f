use Rattle.std.proofs.Common.{◌≡◌, ◌++◌, false, drop}
use Rattle.kc_command_line.specs.MakeText.{unquoted}
use Rattle.kc_command_line.proofs.text_for_make.unquoted.Given as goal

abbrev pub invariant-loop-byte : goal.invariant-loop-byte
invariant-loop-byte l = l.value.items ++ unquoted l.escape (drop l.byte-index l.quoted) ≡ unquoted false l.quoted
