use Rattle.std.proofs.Common.{◌∙◌, ◌++◌, ap}
use Rattle.kc_facts.specs.Unset.{is_unset_at, number_if}
use Rattle.kc_line_facts.proofs.RangeLaws.{filter_next}
use Rattle.kc_facts.proofs.unset_symbols.unset_definitions.Goals as goal

pub loop-number-preserved : goal.loop-number-preserved
loop-number-preserved c =
    let now = c.loop-number.unset.items in
    filter_next (is_unset_at c.args.tree.now) c.loop-number.number now c.add_number.new.numbers.items c.loop-number.invariant
    (c.in_ok-add_number.ensures ∙ ap (λ b. now ++ number_if b c.loop-number.number) c.is_unset_at.ensures)
