use Rattle.std.proofs.Common.{◌≡◌, ◌∙◌, ◌++◌, None, Some, ap, false, get_or, slice_get}
use Rattle.std.proofs.lemmas.Option.{slice_get-get_or}
use Rattle.kc_line_facts.specs.DoubtfulNames.{found_name, is_again, name_found}
use Rattle.kc_line_facts.specs.declared.name_readings.NameReading.TheVariants as reading
use Rattle.kc_line_facts.specs.declared.named_uses.NamedUse.{NamedUse}
use Rattle.kc_line_facts.proofs.DoubtfulLaws.{flat_map_take}
use Rattle.kc_line_facts.proofs.undefined_names.names_found.Goals as goal

abbrev no_use : NamedUse
no_use = record { used = record { line = 0; owner = None; token = 0; reading = reading.No }; first = 0; before = None }

pub loop-place-preserved : goal.loop-place-preserved
loop-place-preserved c =
    let lines = c.args.lines.now in
    let us = c.args.uses.now in
    let i = c.loop-place.place in
    let now = c.loop-place.found.items in
    let n = get_or us i no_use in
    let is : slice_get us i ≡ Some n = slice_get-get_or us i no_use c.loop-place-test.true in
    let several_is = c.is_noted-is_in_several.ensures ∙ ap (λ xs. get_or xs n.first false) c.as_slice.ensures.value ∙ c.in_ok-several.ensures n.first in
    flat_map_take (name_found lines us) us i n now c.add_found.new.found.items is c.loop-place.invariant
    (c.in_ok-add_found.ensures
    ∙ ap (λ b. now ++ found_name b c.is_noted-is_in_several.result n) c.is_again.ensures
    ∙ ap (λ b. now ++ found_name (is_again us n) b n) several_is)
