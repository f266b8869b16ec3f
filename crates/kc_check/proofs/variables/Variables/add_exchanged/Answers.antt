use Rattle.std.proofs.Common.{◌≡◌, ◌∙◌, ◌++◌, OnOk, ap, map, slice_get, subst}
use Rattle.std.specs.Prelude.{option_map, option_to_list}
use Rattle.kc_check.specs.UnusedVariables.{about, about_definition, about_definitions, without_name}
use Rattle.kc_check.proofs.UnusedLaws.{nameless_same}
use Rattle.kc_check.proofs.variables.Variables.add_exchanged.Goals as goal

pub returns : goal.returns
returns c =
    subst (λ more. OnOk c.push_some.result (map about c.push_some.new.found.items ≡ map about c.args.found.now.items ++ more))
    (ap option_to_list (c.in_ok-finding.ensures ∙ nameless_same c.as_slice.result.now 0
    ∙ ap (λ all. option_map without_name (slice_get all 0))
    (ap (map about_definition) c.as_slice.ensures.value ∙ c.in_ok-definitions.ensures ∙ ap about_definitions c.files.ensures)))
    c.push_some.ensures
