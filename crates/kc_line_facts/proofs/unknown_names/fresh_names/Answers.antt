use Rattle.std.proofs.Common.{◌≡◌, ◌∙◌, ◌++◌, ◌∷◌, ◌<◌, Bool, [], if◌then◌else◌, ap, arith, filter, get_or, length}
use Rattle.std.specs.List.{range_with_len}
use Rattle.std.proofs.lemmas.List.{length-map}
use Rattle.std.proofs.lemmas.List.FromFn.{get_or-map-range_with_len, length-map-range_with_len}
use Rattle.kc_text.specs.LineReferences.{lent_names}
use Rattle.kc_line_facts.specs.FreshNames.{is_fresh}
use Rattle.kc_line_facts.proofs.RangeLaws.{filter_next}
use Rattle.kc_line_facts.proofs.unknown_names.fresh_names.Goals as goal

pub loop-place-preserved : goal.loop-place-preserved
loop-place-preserved c =
    let test = is_fresh (lent_names c.args.names.now) (lent_names c.args.known.now) in
    let count = length c.args.names.now in
    let i = c.loop-place.place in
    let now = c.loop-place.fresh.items in
    let flags_are = c.in_ok-flags.ensures in
    let within : i < count = omega (arith, c.loop-place-test.true, ap length flags_are, length-map-range_with_len test 0 count) in
    filter_next test i now _ c.loop-place.invariant
    (c.in_ok-add_place.ensures
    ∙ ap (λ (b : Bool). now ++ (if b then i ∷ [] else []))
    (c.index.ensures
    ∙ ap (λ bs. get_or bs i c.index.result.now) flags_are
    ∙ get_or-map-range_with_len test 0 count i i c.index.result.now within (omega arith)))

pub returns : goal.returns
returns c =
    let names = lent_names c.args.names.now in
    let test = is_fresh names (lent_names c.args.known.now) in
    let count = length c.args.names.now in
    let whole : c.loop-place.place ≡ length names =
    omega (arith, c.loop-place-test.false, c.loop-place.auto.place-end, c.len-place-end.ensures, ap length c.in_ok-flags.ensures, length-map-range_with_len test 0 count, length-map c.args.names.now (λ t. t.now)) in
    c.loop-place.invariant ∙ ap (λ n. filter test (range_with_len 0 n)) whole
