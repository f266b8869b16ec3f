use Rattle.std.proofs.Common.{◌∙◌, ◌++◌, false, ap, sym}
use Rattle.std.specs.Option.{option_map_or}
use Rattle.kc_tree.specs.Fits.{type_of}
use Rattle.kc_facts.specs.ExchangedRanges.{exchanged_at, exchanged_in}
use Rattle.kc_line_facts.specs.Ranges.{has_exchanged_sides}
use Rattle.kc_line_facts.proofs.RangeLaws.{flat_map_after, item_there}
use Rattle.kc_facts.proofs.range_faults.add_exchanged.Goals as goal

pub loop-place-preserved : goal.loop-place-preserved
loop-place-preserved c =
    let t = c.args.tree.now in
    let n = c.args.number in
    let d = c.args.definition.now in
    let i = c.loop-place.place in
    let now = c.loop-place.found.items in
    let item = c.range-item.result in
    let there = item_there d.ranges c.ranges-range-items.result.now i item c.ranges-range-items.ensures c.loop-place-test.true c.range-item.is in
    let is = c.has_exchanged_sides.ensures
    ∙ ap (λ k. has_exchanged_sides k item) (c.symbol_type-kind.ensures ∙ ap (type_of t) c.symbol.ensures)
    ∙ ap (λ o. option_map_or (has_exchanged_sides (type_of t d.symbol)) o false) (sym there) in
    flat_map_after (exchanged_in t n d) i c.args.found.now.items now c.add_range.new.found.items c.loop-place.invariant
    (c.in_ok-add_range.ensures ∙ ap (λ b. now ++ exchanged_at n i b) is)
