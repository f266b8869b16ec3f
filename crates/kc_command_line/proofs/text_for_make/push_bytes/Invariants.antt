use Rattle.std.proofs.Common.{◌≡◌, ◌++◌, false, drop}
use Rattle.kc_command_line.specs.MakeText.{make_bytes}
use Rattle.kc_command_line.proofs.text_for_make.push_bytes.Given as goal

abbrev pub invariant-loop-byte : goal.invariant-loop-byte
invariant-loop-byte l = l.text.items ++ make_bytes l.loose (drop l.byte-index l.value) ≡ l.initial.text.items ++ make_bytes false l.value
