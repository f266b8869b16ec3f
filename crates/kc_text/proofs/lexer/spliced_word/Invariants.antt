use Rattle.std.proofs.Common.{◌≡◌, [], ◌≤◌, length}
use denote.Text.{Utf8}
use denote.Shadow.{shadow}
use Rattle.kc_text.specs.Lexing.{in_word, lexed}
use Rattle.kc_text.specs.Scanning.{pieces_of}
use Rattle.kc_text.proofs.lexer.spliced_word.Given as goal

-- the parts so far are in the word, and once there are any the rest is shorter
abbrev pub invariant-loop-piece : goal.invariant-loop-piece
invariant-loop-piece l = record {
  utf8 : shadow (Utf8 l.rest);
  lexes : lexed 0 (in_word []) l.text ≡ lexed 0 (in_word (pieces_of l.pieces.items)) l.rest;
  within : length l.rest ≤ length l.text;
  begun : length l.rest ≡ length l.text → l.rest ≡ l.text;
}

abbrev pub decreases-loop-piece : goal.decreases-loop-piece
decreases-loop-piece l = length l.rest
