use Rattle.std.proofs.Common.{is_some, sym, ap, ◌∙◌}
use Rattle.kc_outline.specs.TreeValue.{TreeValue}
use Rattle.kc_value.specs.Assignment.{assignment_of}
use Rattle.kc_value.specs.Factors.{prompt_condition}
use Rattle.kc_facts.proofs.WhyLaws.{of_prompt}
use Rattle.kc_facts.proofs.listed_definitions.definition_factors.Goals as goal

pub returns-then-is_prompted : goal.returns-then-is_prompted
returns-then-is_prompted c =
    let v = c.args.view.now in
    let k = c.known.result.now in
    of_prompt v.tree k.tree (assignment_of v.tree v.values) (assignment_of k.tree k.values) c.args.number c.prompt_factors.result
    c.known.ensures.tree
    (ap (λ (t : TreeValue). assignment_of t k.values) c.known.ensures.tree ∙ ap (assignment_of v.tree) c.known.ensures.values)
    (ap (λ (t : TreeValue). is_some (prompt_condition t c.args.number)) (c.known.ensures.tree ∙ sym c.tree.ensures.tree) ∙ sym c.is_prompted.ensures ∙ c.if-is_prompted.true)
    c.prompt_factors.ensures.factors c.prompt_factors.ensures.origins
