use Rattle.std.proofs.Common.{◌∙◌, ◌++◌, [], ap, sym}
use Rattle.std.specs.Option.{option_map_or}
use Rattle.kc_facts.specs.ExchangedRanges.{exchanged_by_number, exchanged_of}
use Rattle.kc_line_facts.proofs.RangeLaws.{flat_map_next, item_there}
use Rattle.kc_facts.proofs.range_faults.exchanged_ranges.Goals as goal

pub loop-number-preserved : goal.loop-number-preserved
loop-number-preserved c =
    let t = c.args.tree.now in
    let n = c.loop-number.number in
    let now = c.loop-number.found.items in
    let item = c.definition-item.result in
    let there = item_there t.definitions c.definitions-definition-items.result.now n item c.definitions-definition-items.ensures c.loop-number-test.true c.definition-item.is in
    flat_map_next (exchanged_by_number t) n now c.add_exchanged.new.found.items c.loop-number.invariant
    (c.in_ok-add_exchanged.ensures ∙ ap (λ o. now ++ option_map_or (exchanged_of t n) o []) (sym there))
