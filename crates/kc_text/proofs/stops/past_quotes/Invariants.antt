use Rattle.std.proofs.Common.{length, drop}
use denote.Text.{Utf8}
use denote.Shadow.{shadow}
use Rattle.kc_text.specs.Lexing.{in_quotes}
use Rattle.kc_text.specs.Stops.{EndsWith}
use Rattle.kc_text.proofs.StopLaws.{SoFar}
use Rattle.kc_text.proofs.stops.past_quotes.Given as goal

-- the parts so far are in the quotes
abbrev pub invariant-loop-piece : goal.invariant-loop-piece
invariant-loop-piece l = record {
  utf8 : shadow (Utf8 l.rest);
  found : SoFar (in_quotes l.quote) (drop 1 l.quoted) l.rest;
  ends : EndsWith l.quoted l.rest;
}

abbrev pub decreases-loop-piece : goal.decreases-loop-piece
decreases-loop-piece l = length l.rest
