use Rattle.std.proofs.Common.{◌≡◌, ◌∙◌, ◌++◌, OnOk, ap, map, subst}
use Rattle.std.specs.List.{filter_map}
use Rattle.kc_text.specs.LineReferences.{lent_names}
use Rattle.kc_line_facts.specs.FreshNames.{fresh_places}
use Rattle.kc_line_facts.specs.VariableNames.{used_names}
use Rattle.kc_check.specs.UnusedVariables.{about, about_given}
use Rattle.kc_check.proofs.UnusedLaws.{given_same}
use Rattle.kc_check.proofs.variables.Variables.add_unused.Goals as goal

pub returns : goal.returns
returns c =
    let given = c.args.given.now in
    subst (λ more. OnOk c.add_given.result (map about c.add_given.new.found.items ≡ map about c.args.found.now.items ++ more))
    (ap (λ f. filter_map f c.as_slice-2.result.now) (given_same given)
    ∙ ap (filter_map (about_given (lent_names given)))
    (c.as_slice-2.ensures.value ∙ c.in_ok-places.ensures
    ∙ ap (fresh_places (lent_names given)) (ap lent_names c.as_slice.ensures.value ∙ c.in_ok-used.ensures ∙ ap used_names c.files-files.ensures)))
    c.add_given.ensures
