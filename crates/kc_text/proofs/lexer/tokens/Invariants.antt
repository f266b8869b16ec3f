use Rattle.std.proofs.Common.{◌≡◌, length}
use denote.Text.{Utf8}
use denote.Shadow.{shadow}
use Rattle.kc_text.specs.Expansion.{names_in, texts_in}
use Rattle.kc_text.specs.Tokens.{ahead, line_tokens}
use Rattle.kc_text.proofs.lexer.tokens.Given as goal

-- the tokens so far stand before those of the rest
abbrev pub invariant-loop-token : goal.invariant-loop-token
invariant-loop-token l =
    let found = line_tokens (names_in l.scope.variables.now) (texts_in l.scope.outside.now) in
    record {
      utf8 : shadow (Utf8 l.rest);
      found : found l.begun.line.now ≡ ahead l.gathered.items (found l.rest);
    }

abbrev pub decreases-loop-token : goal.decreases-loop-token
decreases-loop-token l = length l.rest
