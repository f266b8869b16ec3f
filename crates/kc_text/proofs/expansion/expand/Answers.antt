use Rattle.std.proofs.Common.{List, ℕ, Bor, subst}
use Rattle.kc_text.specs.Expansion.{expanded, names_in, texts_in}
use Rattle.kc_text.specs.Faults.{ReadsAfter}
use Rattle.kc_text.specs.Scanning.{pieces_of, progress_of}
use Rattle.kc_text.proofs.Expanding.{followed_inside}
use Rattle.kc_text.proofs.expansion.expand.Goals as goal

pub returns-clause-expands : goal.returns-clause-expands
returns-clause-expands c =
    let follow = followed_inside (names_in c.args.scope.variables.now) (texts_in c.args.scope.outside.now) in
    subst (λ (around : List (Bor (List ℕ))). ReadsAfter c.expand_pieces.result (progress_of c.expand_pieces.new.out) (expanded (follow around) (pieces_of c.args.pieces.now) (progress_of c.args.out.now)))
    c.new-around.ensures.items c.expand_pieces.ensures.expands
