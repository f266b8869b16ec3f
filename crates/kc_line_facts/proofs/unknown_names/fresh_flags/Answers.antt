use Rattle.std.proofs.Common.{◌∙◌, ◌++◌, ◌∷◌, ◌<◌, [], Some, ap, arith, length, map, sym}
use Rattle.std.specs.List.{range_with_len}
use Rattle.std.proofs.lemmas.List.{get_or-map, length-map}
use Rattle.std.proofs.lemmas.List.FromFn.{map-range_with_len_more}
use Rattle.std.proofs.lemmas.Option.{slice_get-get_or}
use Rattle.kc_text.specs.LineReferences.{lent_names}
use Rattle.kc_line_facts.specs.FreshNames.{is_fresh}
use Rattle.kc_line_facts.proofs.FreshLaws.{after_known, fresh_by}
use Rattle.kc_line_facts.proofs.unknown_names.fresh_flags.Goals as goal

pub loop-place-preserved : goal.loop-place-preserved
loop-place-preserved c =
    let names = c.args.names.now in
    let known = lent_names c.args.known.now in
    let i = c.loop-place.place in
    let inside = c.loop-place-test.true in
    let within : i < length (lent_names names) = omega (arith, inside, length-map names (λ t. t.now)) in
    record {
      noted_is = λ q.
          c.in_ok-is_fresh.ensures.noted q
          ∙ after_known (lent_names names) i q _ _ _ within (get_or-map (λ t. t.now) names i _ [] inside) (c.loop-place.invariant.noted_is q);
      flags_are =
          c.in_ok-push.ensures.items
          ∙ ap (λ bs. bs ++ c.in_ok-is_fresh.is_fresh ∷ []) c.loop-place.invariant.flags_are
          ∙ ap (λ b. map (is_fresh (lent_names names) known) (range_with_len 0 i) ++ b ∷ [])
          (c.in_ok-is_fresh.ensures.new
          ∙ fresh_by (lent_names names) known i _ _
          (slice_get-get_or (lent_names names) i [] within ∙ ap Some (get_or-map (λ t. t.now) names i _ [] inside))
          (c.loop-place.invariant.noted_is _))
          ∙ sym (map-range_with_len_more (is_fresh (lent_names names) known) 0 i i (omega arith));
    }
