use Rattle.std.proofs.Common.{◌≡◌, ◌∙◌, ◌&&◌, ◌||◌, ◌==◌, None, ap, false, get_or, sym, take}
use Rattle.std.proofs.lemmas.List.Folds.{list_any_more}
use Rattle.kc_line_facts.specs.ListedNames.{is_unknown, is_unknown_first}
use Rattle.kc_line_facts.specs.declared.name_readings.NameReading.TheVariants as reading
use Rattle.kc_line_facts.specs.declared.undefined_names.DoubtfulName.{DoubtfulName}
use Rattle.kc_line_facts.proofs.unlisted_names.unknown_firsts.Goals as goal

abbrev no_name : DoubtfulName
no_name = record { used = record { line = 0; owner = None; token = 0; reading = reading.No }; first = 0; is_in_one_line = false }

pub loop-place-preserved : goal.loop-place-preserved
loop-place-preserved c = λ f.
    let lines = c.args.lines.now in
    let ds = c.args.doubtful.now in
    let i = c.loop-place.place in
    let d = get_or ds i no_name in
    c.in_ok-add_first.ensures f
    ∙ ap (λ b. b || ((d.first == f) && c.is_unknown.result)) (c.loop-place.invariant f)
    ∙ ap (λ b. is_unknown_first lines (take i ds) f || ((d.first == f) && b)) c.is_unknown.ensures
    ∙ sym (list_any_more (λ n. (n.first == f) && is_unknown lines n) ds i no_name c.loop-place-test.true)
