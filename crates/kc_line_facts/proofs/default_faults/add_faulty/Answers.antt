use Rattle.std.proofs.Common.{◌∙◌, ◌++◌, ap, sym}
use Rattle.std.specs.Prelude.{option_and_then}
use Rattle.kc_line_facts.specs.FaultyDefaults.{default_fault, faulty_at, faulty_in}
use Rattle.kc_line_facts.proofs.RangeLaws.{flat_map_after, item_there}
use Rattle.kc_line_facts.proofs.default_faults.add_faulty.Goals as goal

pub loop-place-preserved : goal.loop-place-preserved
loop-place-preserved c =
    let t = c.args.tree.now in
    let n = c.args.number in
    let d = c.args.definition.now in
    let i = c.loop-place.place in
    let now = c.loop-place.found.items in
    let item = c.default-item.result in
    let there = item_there d.defaults c.defaults-default-items.result.now i item c.defaults-default-items.ensures c.loop-place-test.true c.default-item.is in
    let fault_is = c.default_fault-fault.ensures
    ∙ ap (λ s. default_fault t n s item) c.symbol-symbol.ensures
    ∙ ap (option_and_then (default_fault t n d.symbol)) (sym there) in
    flat_map_after (faulty_in t n d) i c.args.found.now.items now c.add_fault.new.found.items c.loop-place.invariant
    (c.in_ok-add_fault.ensures ∙ ap (λ f. now ++ faulty_at n i f) fault_is)
