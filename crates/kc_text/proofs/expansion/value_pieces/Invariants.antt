use Rattle.std.proofs.Common.{◌≡◌, ◌++◌, length}
use denote.Text.{Utf8}
use denote.Shadow.{shadow}
use Rattle.kc_text.specs.References.{value_pieces}
use Rattle.kc_text.specs.Scanning.{pieces_of}
use Rattle.kc_text.proofs.expansion.value_pieces.Given as goal

-- the parts so far stand before those of the rest
abbrev pub invariant-loop-piece : goal.invariant-loop-piece
invariant-loop-piece l = record {
  utf8 : shadow (Utf8 l.rest);
  found : pieces_of l.pieces.items ++ value_pieces l.rest ≡ value_pieces l.text;
}

abbrev pub decreases-loop-piece : goal.decreases-loop-piece
decreases-loop-piece l = length l.rest
