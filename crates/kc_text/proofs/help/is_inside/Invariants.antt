use Rattle.std.proofs.Common.{◌≡◌, ◌≤◌, ◌*◌, take, fold}
use Rattle.std.specs.List.{prefix_len}
use Rattle.kc_text.specs.Bytes.{is_blank}
use Rattle.kc_text.specs.Help.{column_after}
use Rattle.kc_text.proofs.help.is_inside.Given as goal

-- the bytes so far are blanks
abbrev pub invariant-loop-byte : goal.invariant-loop-byte
invariant-loop-byte l = record {
  blanks : l.byte-index ≤ prefix_len is_blank l.byte-items;
  column : l.reached ≡ fold column_after 0 (take l.byte-index l.byte-items);
  within : l.reached ≤ 8 * l.byte-index;
}
