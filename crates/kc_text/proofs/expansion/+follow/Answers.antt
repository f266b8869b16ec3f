use Rattle.std.proofs.Common.{arith, drop, ◌+◌, Some, ap, sym, refl, ◌∙◌}
use Rattle.std.proofs.lemmas.Result.{err_from_is_err_and}
use Rattle.kc_text.specs.declared.expansion.Piece.TheVariants.{Text, Reference}
use Rattle.kc_text.specs.References.{value_pieces}
use Rattle.kc_text.specs.Expansion.{expanded, put, is_among, names_in, texts_in}
use Rattle.kc_text.specs.Scanning.{names_of, pieces_of, progress_of}
use Rattle.kc_text.proofs.Expanding.{followed_inside, part_goes_on, part_fails, fault_along, follows}
use Rattle.kc_text.proofs.expansion.+follow.Goals.{expand_pieces-in-Text+in_ok-put-in-Text, expand_pieces-in-Reference+in_ok-follow-in-Reference}
use Rattle.kc_text.proofs.expansion.+follow.Goals as goal

pub expand_pieces-returns-in_err-put-in-Text-clause-expands : goal.expand_pieces-returns-in_err-put-in-Text-clause-expands
expand_pieces-returns-in_err-put-in-Text-clause-expands t c =
    let p = err_from_is_err_and c.from_residual.result c.from_residual.ensures.1 in
    let out = progress_of c.loop-piece.out in
    let left = progress_of c.put.new.self in
    rw (p.1, p.2) (fault_along c.in_err-put-in-Text.field-0.0 left left (put c.in-Text.text.now out) _
    (λ f e. c.loop-piece.invariant.expands ∙ part_fails _ c.args.pieces.now c.loop-piece.piece-index out (Text c.in-Text.text) _ c.loop-piece-test.true c.in-Text.is f e)
    c.in_err-put-in-Text.ensures.puts)

pub expand_pieces-returns-in_err-follow-in-Reference-clause-expands : goal.expand_pieces-returns-in_err-follow-in-Reference-clause-expands
expand_pieces-returns-in_err-follow-in-Reference-clause-expands t c =
    let p = err_from_is_err_and c.from_residual-in_err-follow-in-Reference.result c.from_residual-in_err-follow-in-Reference.ensures.1 in
    let out = progress_of c.loop-piece.out in
    let left = progress_of c.follow.new.out in
    let name = c.in-Reference.name.now in
    let follow = followed_inside (names_in c.args.scope.variables.now) (texts_in c.args.scope.outside.now) in
    rw (p.1, p.2) (fault_along c.in_err-follow-in-Reference.field-0.0 left left (follow c.loop-piece.around.items name out) _
    (λ f e. c.loop-piece.invariant.expands ∙ part_fails _ c.args.pieces.now c.loop-piece.piece-index out (Reference c.in-Reference.name) _ c.loop-piece-test.true c.in-Reference.is f
    (ap (λ a. follow a name out) (sym c.loop-piece.invariant.around) ∙ e))
    c.in_err-follow-in-Reference.ensures.follows)

pub expand_pieces-loop-piece-preserved : goal.expand_pieces-loop-piece-preserved
expand_pieces-loop-piece-preserved t c =
    let out = progress_of c.loop-piece.out in
    let follow = followed_inside (names_in c.args.scope.variables.now) (texts_in c.args.scope.outside.now) in
    let inside = follow c.args.around.now.items in
    let rest = pieces_of (drop (c.loop-piece.piece-index + 1) c.args.pieces.now) in
    elim c.match-piece.branch [
      | expand_pieces-in-Text+in_ok-put-in-Text w ↦ record {
        around = ap (λ v. v.items) w.around-is ∙ c.loop-piece.invariant.around;
        before = ap (λ o. o.before.now) w.out-is ∙ w.in_ok-put-in-Text.ensures.before ∙ c.loop-piece.invariant.before;
        expands =
            c.loop-piece.invariant.expands
            ∙ part_goes_on inside c.args.pieces.now c.loop-piece.piece-index out (Text w.in-Text.text) _ c.loop-piece-test.true w.in-Text.is _ w.in_ok-put-in-Text.ensures.puts
            ∙ ap (λ o. expanded inside rest (progress_of o)) (sym w.out-is);
      }
      | expand_pieces-in-Reference+in_ok-follow-in-Reference w ↦ record {
        around = ap (λ v. v.items) w.around-is ∙ w.in_ok-follow-in-Reference.ensures.around ∙ c.loop-piece.invariant.around;
        before = ap (λ o. o.before.now) w.out-is ∙ w.in_ok-follow-in-Reference.ensures.before ∙ c.loop-piece.invariant.before;
        expands =
            c.loop-piece.invariant.expands
            ∙ part_goes_on inside c.args.pieces.now c.loop-piece.piece-index out (Reference w.in-Reference.name) _ c.loop-piece-test.true w.in-Reference.is _
            (ap (λ a. follow a w.in-Reference.name.now out) (sym c.loop-piece.invariant.around) ∙ w.in_ok-follow-in-Reference.ensures.follows)
            ∙ ap (λ o. expanded inside rest (progress_of o)) (sym w.out-is);
      }
    ]

pub follow-returns-in_err-expand_pieces-in-Some-Recursive-clause-follows : goal.follow-returns-in_err-expand_pieces-in-Some-Recursive-clause-follows
follow-returns-in_err-expand_pieces-in-Some-Recursive-clause-follows t c =
    let p = err_from_is_err_and c.from_residual-in_err-expand_pieces-in-Some-Recursive.result c.from_residual-in_err-expand_pieces-in-Some-Recursive.ensures.1 in
    let left = progress_of c.expand_pieces.new.out in
    rw (p.1, p.2) (fault_along c.in_err-expand_pieces-in-Some-Recursive.field-0.0 left left _ _
    (λ f e. follows (names_in c.args.scope.variables.now) (texts_in c.args.scope.outside.now) c.args.name.now (progress_of c.args.out.now) c.in-Some-Recursive.text (c.in-Some-Recursive.ensures ∙ ap Some c.in-Some-Recursive.field-0-is) (omega arith)
    c.args.around.now.items c.push.new.self.items c.args.name refl c.in_ok-push-in-Some-Recursive.ensures.items (omega arith)
    (ap (λ others. is_among c.args.name.now (names_of others)) (sym c.as_slice.ensures.value) ∙ sym c.is_among.ensures ∙ c.if-is_among.false)
    c.as_slice-in-Some-Recursive.result.now (ap pieces_of c.as_slice-in-Some-Recursive.ensures.value ∙ c.in_ok-pieces-in-Some-Recursive.ensures ∙ ap value_pieces c.as_str.ensures)
    ∙ e)
    c.in_err-expand_pieces-in-Some-Recursive.ensures.expands)

pub follow-returns-in_ok-expand_pieces-in-Some-Recursive-clause-follows : goal.follow-returns-in_ok-expand_pieces-in-Some-Recursive-clause-follows
follow-returns-in_ok-expand_pieces-in-Some-Recursive-clause-follows t c =
    follows (names_in c.args.scope.variables.now) (texts_in c.args.scope.outside.now) c.args.name.now (progress_of c.args.out.now) c.in-Some-Recursive.text (c.in-Some-Recursive.ensures ∙ ap Some c.in-Some-Recursive.field-0-is) (omega arith)
    c.args.around.now.items c.push.new.self.items c.args.name refl c.in_ok-push-in-Some-Recursive.ensures.items (omega arith)
    (ap (λ others. is_among c.args.name.now (names_of others)) (sym c.as_slice.ensures.value) ∙ sym c.is_among.ensures ∙ c.if-is_among.false)
    c.as_slice-in-Some-Recursive.result.now (ap pieces_of c.as_slice-in-Some-Recursive.ensures.value ∙ c.in_ok-pieces-in-Some-Recursive.ensures ∙ ap value_pieces c.as_str.ensures)
    ∙ c.in_ok-expand_pieces-in-Some-Recursive.ensures.expands
