use Rattle.std.proofs.Common.{◌∙◌, ap, map}
use Rattle.kc_statement.specs.Tristate.{greatest_of}
use Rattle.kc_value.specs.Known.{given}
use Rattle.kc_facts.specs.Forced.{forced_by, forcing, nearest, worth}
use Rattle.kc_facts.proofs.forced_definitions.forced_of.Goals as goal

pub returns : goal.returns
returns c =
    let t = c.args.known.now.tree in
    let a = given c.args.known.now in
    let x = c.args.symbol.now in
    let n = c.args.definition in
    let most = c.most_worth-most.result in
    let selection = c.forcing-selection.result in
    let most_is = c.most_worth-most.ensures ∙ ap (λ numbers. greatest_of (map (worth t a) numbers)) c.definitions.ensures in
    let near_is = c.nearest-near.ensures ∙ ap (nearest t a most) c.definitions-2.ensures in
    let selection_is = c.forcing-selection.ensures ∙ ap (forcing t a most) c.selected.ensures in
    c.forced_by.ensures
    ∙ ap (λ o. forced_by n most o selection) near_is
    ∙ ap (forced_by n most (nearest t a most x.definitions)) selection_is
    ∙ ap (λ v. forced_by n v (nearest t a v x.definitions) (forcing t a v x.selected)) most_is
