use Rattle.std.proofs.Common.{◌≡◌, ◌+◌, ◌-◌, ◌*◌, length, drop}
use Rattle.kc_text.specs.Expansion.{expanded, names_in, texts_in}
use Rattle.kc_text.specs.Scanning.{pieces_of, progress_of}
use Rattle.kc_text.proofs.Expanding.{followed_inside}
use Rattle.kc_text.proofs.expansion.+follow.Given as goal

-- a name is expanded with one more name around
abbrev pub decreases-expand_pieces : goal.decreases-expand_pieces
decreases-expand_pieces l = 2 * (64 - length l.around.now.items) + 1

abbrev pub decreases-follow : goal.decreases-follow
decreases-follow l = 2 * (64 - length l.around.now.items)

-- the parts that are left go behind the text so far
abbrev pub invariant-expand_pieces-loop-piece : goal.invariant-expand_pieces-loop-piece
invariant-expand_pieces-loop-piece l =
    let follow = followed_inside (names_in l.fn.scope.variables.now) (texts_in l.fn.scope.outside.now) l.fn.around.items in
    record {
      around : l.around.items ≡ l.fn.around.items;
      before : l.out.before.now ≡ l.fn.out.before.now;
      expands : expanded follow (pieces_of l.fn.pieces) (progress_of l.fn.out) ≡ expanded follow (pieces_of (drop l.piece-index l.pieces)) (progress_of l.out);
    }
