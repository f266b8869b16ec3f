use Rattle.std.proofs.Common.{◌∙◌, [], arith}
use Rattle.std.proofs.lemmas.List.{get_or-map, length-map}
use Rattle.kc_text.specs.LineReferences.{lent_names}
use Rattle.kc_line_facts.proofs.FreshLaws.{after_noted}
use Rattle.kc_line_facts.proofs.unknown_names.note_all.Goals as goal

pub loop-place-preserved : goal.loop-place-preserved
loop-place-preserved c = λ q.
    let names = c.args.names.now in
    let i = c.loop-place.place in
    let inside = c.loop-place-test.true in
    c.in_ok-note.ensures.noted q
    ∙ after_noted (lent_names names) i q _ _ _ (omega (arith, inside, length-map names (λ t. t.now))) (get_or-map (λ t. t.now) names i _ [] inside) (c.loop-place.invariant q)
