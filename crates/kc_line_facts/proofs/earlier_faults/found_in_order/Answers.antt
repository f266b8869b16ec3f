use Rattle.std.proofs.Common.{◌≡◌, ◌∙◌, ◌++◌, ap, false, get_or}
use Rattle.std.specs.Prelude.{option_to_list}
use Rattle.std.specs.BTreeMap.{get}
use Rattle.std.specs.List.{find}
use Rattle.std.specs.Ordering.{nat_cmp}
use Rattle.std.proofs.lemmas.Option.{slice_get-get_or}
use Rattle.kc_text.specs.LineReferences.{lent_names}
use Rattle.kc_line_facts.specs.declared.read_order.Mark.TheVariants.{Use}
use Rattle.kc_line_facts.specs.EarlierFindings.{found_at, found_with, is_missing, puts, repeats}
use Rattle.kc_line_facts.proofs.EarlierLaws.{fault_same, found_is}
use Rattle.kc_line_facts.proofs.RangeLaws.{filter_map_next}
use Rattle.kc_line_facts.proofs.earlier_faults.found_in_order.Goals as goal

pub loop-number-preserved : goal.loop-number-preserved
loop-number-preserved c =
    let files = c.args.files.now in
    let given = lent_names c.args.given.now in
    let repeated = c.args.repeated.now in
    let reached = c.args.reached.now in
    let n = c.loop-number.number in
    let now = c.loop-number.found.items in
    let one = get_or reached n (record { before = 0; file = 0; mark = Use 0 }) in
    let fault_is = c.fault_at-fault.ensures
    ∙ fault_same (λ k. get_or c.as_slice.result.now k false) (is_missing files given reached) (get nat_cmp c.in_ok-repeated.repeated) (λ r. find (repeats r) repeated)
    (get nat_cmp c.in_ok-sources.sources) (λ r. find (puts r) reached) n one.mark
    (λ k. ap (λ s. get_or s k false) c.as_slice.ensures.value ∙ c.in_ok-missing.ensures k) c.in_ok-repeated.ensures c.in_ok-sources.ensures in
    filter_map_next (found_at files given repeated reached) n now _ c.loop-number.invariant
    (c.in_ok-push_found.ensures ∙ ap (λ o. now ++ option_to_list o)
    (found_is files given repeated reached n one c.fault_at-fault.result
    (slice_get-get_or reached n (record { before = 0; file = 0; mark = Use 0 }) c.loop-number-test.true) fault_is))
