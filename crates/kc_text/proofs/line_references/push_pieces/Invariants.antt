use Rattle.std.proofs.Common.{◌≡◌, ◌++◌, drop}
use Rattle.kc_text.specs.LineReferences.{lent_names, names_in_pieces}
use Rattle.kc_text.specs.Scanning.{pieces_of}
use Rattle.kc_text.proofs.line_references.push_pieces.Given as goal

-- the names so far, and those of the parts that are left
abbrev pub invariant-loop-piece : goal.invariant-loop-piece
invariant-loop-piece l =
    lent_names l.names.items ++ names_in_pieces (pieces_of (drop l.piece-index l.pieces)) ≡ lent_names l.initial.names.items ++ names_in_pieces (pieces_of l.pieces)
