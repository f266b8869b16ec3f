use Rattle.std.proofs.Common.{◌∙◌, ap, map}
use Rattle.std.specs.List.{list_any}
use Rattle.kc_statement.specs.Tristate.{greatest_of}
use Rattle.kc_value.specs.Known.{given}
use Rattle.kc_value.specs.Rule.{reverse_value}
use Rattle.kc_facts.specs.Forced.{is_above, worth}
use Rattle.kc_facts.proofs.ForcedLaws.{selected_beyond}
use Rattle.kc_facts.proofs.forced.is_selected_beyond.Goals as goal

pub returns : goal.returns
returns c =
    let t = c.args.known.now.tree in
    let a = given c.args.known.now in
    let most = c.most_worth-most.result in
    c.has_above-2.ensures
    ∙ ap (λ lines. list_any (λ r. is_above (reverse_value t a r) most) lines) c.selected-2.ensures
    ∙ selected_beyond t a c.args.symbol.now most (c.most_worth-most.ensures ∙ ap (λ numbers. greatest_of (map (worth t a) numbers)) c.definitions.ensures)
