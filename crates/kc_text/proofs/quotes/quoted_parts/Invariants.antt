use Rattle.std.proofs.Common.{◌≡◌, [], ◌≤◌, length}
use denote.Text.{Utf8}
use denote.Shadow.{shadow}
use Rattle.kc_text.specs.Lexing.{in_quotes, lexed}
use Rattle.kc_text.specs.Scanning.{pieces_of}
use Rattle.kc_text.proofs.quotes.quoted_parts.Given as goal

-- the parts so far are in the quotes
abbrev pub invariant-loop-piece : goal.invariant-loop-piece
invariant-loop-piece l = record {
  utf8 : shadow (Utf8 l.rest);
  lexes : lexed 0 (in_quotes l.quote []) l.text ≡ lexed 0 (in_quotes l.quote (pieces_of l.pieces.items)) l.rest;
  within : length l.rest ≤ length l.text;
}

abbrev pub decreases-loop-piece : goal.decreases-loop-piece
decreases-loop-piece l = length l.rest
