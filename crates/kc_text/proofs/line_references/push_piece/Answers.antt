use Rattle.std.proofs.Common.{ap, ◌∙◌}
use Rattle.kc_text.specs.LineReferences.{lent_names, names_in_pieces}
use Rattle.kc_text.specs.Scanning.{piece_of}
use Rattle.kc_text.proofs.LineNames.{adds_none, byte_names}
use Rattle.kc_text.proofs.line_references.push_piece.Goals as goal

pub returns-in-Text : goal.returns-in-Text
returns-in-Text c =
    adds_none (lent_names c.args.names.now.items) (names_in_pieces (piece_of c.args.piece.now))
    (ap (λ p. names_in_pieces (piece_of p)) c.in-Text.is ∙ byte_names c.in-Text.field-0.now)
