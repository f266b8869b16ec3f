use Rattle.std.proofs.Common.{◌≡◌, take}
use Rattle.std.specs.List.{flat_map}
use Rattle.std.specs.String.{string_bytes}
use Rattle.kc_explain.specs.Messages.{piece_text}
use Rattle.kc_explain.proofs.piece.words_of.Given as goal

-- the words are those of the pieces so far
abbrev pub invariant-loop-piece : goal.invariant-loop-piece
invariant-loop-piece l = string_bytes l.words ≡ flat_map (piece_text l.texts) (take l.piece-index l.pieces)
