use Rattle.std.proofs.Common.{◌∙◌, ◌++◌, ap}
use Rattle.kc_facts.specs.NeverModules.{says_tristate}
use Rattle.kc_facts.specs.Unset.{number_if}
use Rattle.kc_line_facts.proofs.RangeLaws.{filter_next}
use Rattle.kc_facts.proofs.tristates_without_modules.tristate_definitions.Goals as goal

pub loop-number-preserved : goal.loop-number-preserved
loop-number-preserved c =
    let now = c.loop-number.found.items in
    filter_next (says_tristate c.args.index.now c.args.tree.now) c.loop-number.number now c.add_number.new.numbers.items c.loop-number.invariant
    (c.in_ok-add_number.ensures ∙ ap (λ b. now ++ number_if b c.loop-number.number) c.says_tristate.ensures)
