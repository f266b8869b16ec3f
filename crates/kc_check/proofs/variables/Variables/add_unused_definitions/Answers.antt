use Rattle.std.proofs.Common.{◌≡◌, ◌∙◌, ◌++◌, OnOk, ap, map, slice_get, subst}
use Rattle.std.specs.List.{filter_map}
use Rattle.kc_text.specs.LineReferences.{lent_names}
use Rattle.kc_line_facts.specs.FreshNames.{fresh_places}
use Rattle.kc_line_facts.specs.VariableNames.{defined_names, used_names}
use Rattle.kc_check.specs.UnusedVariables.{about, about_definition, about_definitions}
use Rattle.kc_check.proofs.UnusedLaws.{definition_same}
use Rattle.kc_check.proofs.variables.Variables.add_unused_definitions.Goals as goal

pub returns : goal.returns
returns c =
    let files = c.files-files.result.now in
    subst (λ more. OnOk c.add_defined.result (map about c.add_defined.new.found.items ≡ map about c.args.found.now.items ++ more))
    (ap (λ f. filter_map f c.as_slice-4.result.now) (definition_same c.as_slice-3.result.now)
    ∙ ap (λ all. filter_map (slice_get all) c.as_slice-4.result.now) (ap (map about_definition) c.as_slice-3.ensures.value ∙ c.in_ok-definitions.ensures)
    ∙ ap (filter_map (slice_get (about_definitions files)))
    (c.as_slice-4.ensures.value ∙ c.in_ok-places.ensures
    ∙ ap (λ ns. fresh_places ns (lent_names c.as_slice-2.result.now)) (ap lent_names c.as_slice.ensures.value ∙ c.in_ok-names.ensures)
    ∙ ap (fresh_places (defined_names files)) (ap lent_names c.as_slice-2.ensures.value ∙ c.in_ok-used.ensures))
    ∙ ap (λ fs. filter_map (slice_get (about_definitions fs)) (fresh_places (defined_names fs) (used_names fs))) c.files-files.ensures)
    c.add_defined.ensures
