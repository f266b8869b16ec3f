use Rattle.std.proofs.Common.{None, Some, ap, arith, get_or, length, ◌≡◌, ◌∙◌, ◌+◌, false, slice_get}
use Rattle.std.proofs.lemmas.List.{length_push}
use Rattle.std.proofs.lemmas.Option.{slice_get-get_or, slice_get_within}
use Rattle.kc_line_facts.specs.declared.name_readings.NameReading.TheVariants as reading
use Rattle.kc_line_facts.specs.declared.undefined_names.DoubtfulName.{DoubtfulName}
use Rattle.kc_line_facts.proofs.MeantLaws.{meant_more}
use Rattle.kc_line_facts.proofs.meant_symbols.meant_among.Goals as goal

abbrev no_name : DoubtfulName
no_name = record { used = record { line = 0; owner = None; token = 0; reading = reading.No }; first = 0; is_in_one_line = false }

pub loop-place-preserved : goal.loop-place-preserved
loop-place-preserved c =
    let ds = c.args.doubtful.now in
    let i = c.loop-place.place in
    let known = c.loop-place.invariant in
    let ms = c.loop-place.meant.items in
    let d = get_or ds i no_name in
    record {
      sized = ap length c.in_ok-push.ensures.items ∙ length_push ms c.meant_symbol-symbol.result ∙ ap (λ n. n + 1) known.sized;
      each =
          meant_more c.args.near.now c.args.lines.now c.args.tree.now c.args.prefix.now ds ms c.push.new.self.items i d c.meant_symbol-symbol.result
          (slice_get-get_or ds i no_name c.loop-place-test.true) known.sized c.in_ok-push.ensures.items c.meant_symbol-symbol.ensures known.each;
    }

pub returns : goal.returns
returns c = record {
  sized = omega (arith, c.loop-place.invariant.sized);
  each = λ k d at. c.loop-place.invariant.each k d (omega (arith, slice_get_within c.args.doubtful.now k d at)) at;
}
