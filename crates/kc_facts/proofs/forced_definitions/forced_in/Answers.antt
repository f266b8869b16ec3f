use Rattle.std.proofs.Common.{◌∙◌, ◌++◌, ap}
use Rattle.std.specs.Option.{option_to_list}
use Rattle.kc_value.specs.Known.{given}
use Rattle.kc_facts.specs.Forced.{forced_at}
use Rattle.kc_line_facts.proofs.RangeLaws.{filter_map_next}
use Rattle.kc_facts.proofs.forced_definitions.forced_in.Goals as goal

pub loop-number-preserved : goal.loop-number-preserved
loop-number-preserved c =
    let t = c.args.known.now.tree in
    let a = given c.args.known.now in
    let now = c.loop-number.found.items in
    filter_map_next (forced_at t a) c.loop-number.number now c.add_forced.new.found.items c.loop-number.invariant
    (c.in_ok-add_forced.ensures ∙ ap (λ o. now ++ option_to_list o) c.forced_at.ensures)
