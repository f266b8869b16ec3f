use Rattle.std.proofs.Common.{◌∙◌, ◌++◌, ap}
use Rattle.kc_facts.specs.HiddenChoices.{is_hidden, is_hidden_number}
use Rattle.kc_facts.specs.Unset.{number_if}
use Rattle.kc_line_facts.proofs.RangeLaws.{filter_next}
use Rattle.kc_facts.proofs.unseen_choices.hidden_choices.Goals as goal

pub loop-number-preserved : goal.loop-number-preserved
loop-number-preserved c =
    let t = c.args.view.now.tree in
    let n = c.loop-number.number in
    let now = c.loop-number.hidden.items in
    filter_next (is_hidden_number t) n now c.add_number.new.numbers.items c.loop-number.invariant
    (c.in_ok-add_number.ensures
    ∙ ap (λ b. now ++ number_if b n) (c.in_ok-is_one.ensures ∙ ap (λ s. is_hidden s (record { 0 = n })) c.known-known.ensures.tree))
