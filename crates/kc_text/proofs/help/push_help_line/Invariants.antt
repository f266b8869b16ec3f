use Rattle.std.proofs.Common.{◌≡◌, ◌-◌, ◌≤◌, ◌++◌, string_bytes, replicate}
use Rattle.kc_text.proofs.help.push_help_line.Given as goal

abbrev pub invariant-loop : goal.invariant-loop
invariant-loop l = record { out : string_bytes l.out ≡ string_bytes l.fn.out ++ replicate (l.counter - l.column) 32; within : l.counter - l.column ≤ l.end - l.column }
