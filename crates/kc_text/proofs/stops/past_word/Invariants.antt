use Rattle.std.proofs.Common.{length}
use denote.Text.{Utf8}
use denote.Shadow.{shadow}
use Rattle.kc_text.specs.Lexing.{in_word}
use Rattle.kc_text.specs.Stops.{EndsWith}
use Rattle.kc_text.proofs.StopLaws.{SoFar}
use Rattle.kc_text.proofs.stops.past_word.Given as goal

-- the parts so far are in the word
abbrev pub invariant-loop-piece : goal.invariant-loop-piece
invariant-loop-piece l = record {
  utf8 : shadow (Utf8 l.rest);
  found : SoFar in_word l.text l.rest;
  ends : EndsWith l.text l.rest;
}

abbrev pub decreases-loop-piece : goal.decreases-loop-piece
decreases-loop-piece l = length l.rest
