use Rattle.std.proofs.Common.{◌≡◌, ◌∙◌, ◌++◌, [], None, Some, ap, false, get_or, slice_get, sym}
use Rattle.std.specs.Prelude.{is_some}
use Rattle.std.specs.Option.{option_map_or}
use Rattle.std.proofs.lemmas.Option.{slice_get-get_or}
use Rattle.kc_line_facts.specs.ListedNames.{is_listed, listed_at, listed_if, listed_with}
use Rattle.kc_line_facts.specs.declared.name_readings.NameReading.TheVariants as reading
use Rattle.kc_line_facts.specs.declared.undefined_names.DoubtfulName.{DoubtfulName}
use Rattle.kc_line_facts.proofs.RangeLaws.{flat_map_next}
use Rattle.kc_line_facts.proofs.listed_names.listed_among.Goals as goal

abbrev no_name : DoubtfulName
no_name = record { used = record { line = 0; owner = None; token = 0; reading = reading.No }; first = 0; is_in_one_line = false }

pub loop-place-preserved : goal.loop-place-preserved
loop-place-preserved c =
    let lines = c.args.lines.now in
    let prefix = c.args.prefix.now in
    let extent = c.args.extent in
    let ds = c.args.doubtful.now in
    let ms = c.args.meant.now in
    let i = c.loop-place.place in
    let now = c.loop-place.listed.items in
    let d = get_or ds i no_name in
    let m = c.meant_at-symbol.result in
    let is : slice_get ds i ≡ Some d = slice_get-get_or ds i no_name c.loop-place-test.true in
    flat_map_next (listed_at lines prefix extent ds ms) i now c.add_listed.new.listed.items c.loop-place.invariant
    (c.in_ok-add_listed.ensures
    ∙ ap (λ b. now ++ listed_if b d m) (c.is_listed-is_one.ensures ∙ ap (λ b. is_listed lines prefix extent b d) c.is_some.ensures)
    ∙ ap (λ o. now ++ listed_with lines prefix extent d o) c.meant_at-symbol.ensures
    ∙ ap (λ o. now ++ option_map_or (λ x. listed_with lines prefix extent x (get_or ms i None)) o []) (sym is))
