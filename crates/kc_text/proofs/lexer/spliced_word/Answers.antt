use Rattle.std.proofs.Common.{◌∙◌}
use Rattle.kc_text.specs.Scanning.{pieces_of}
use Rattle.kc_text.proofs.Lexing.{word_begins, word_ends}
use Rattle.kc_text.proofs.lexer.spliced_word.Goals as goal

pub returns-clause-lexes : goal.returns-clause-lexes
returns-clause-lexes c =
    word_begins c.args.text.now c.requires.begins ∙ c.loop-piece.invariant.lexes
    ∙ word_ends (pieces_of c.loop-piece.pieces.items) c.loop-piece.rest.now c.in_default.ensures.none
