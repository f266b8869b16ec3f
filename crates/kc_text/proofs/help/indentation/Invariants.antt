use Rattle.std.proofs.Common.{◌≡◌, ◌≤◌, ◌*◌, take, fold}
use Rattle.kc_text.specs.Help.{column_after}
use Rattle.kc_text.proofs.help.indentation.Given as goal

abbrev pub invariant-loop-byte : goal.invariant-loop-byte
invariant-loop-byte l = record { column : l.column ≡ fold column_after 0 (take l.byte-index l.byte-items); within : l.column ≤ 8 * l.byte-index }
