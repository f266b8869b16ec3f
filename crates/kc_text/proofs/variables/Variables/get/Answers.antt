use Rattle.std.proofs.Common.{ap, sym, ◌∙◌}
use Rattle.kc_text.specs.Expansion.{names_in}
use Rattle.kc_text.proofs.Names.{names_in-variable_list, found-lent}
use Rattle.kc_text.proofs.variables.Variables.get.Goals as goal

pub returns : goal.returns
returns c =
    let name = c.args.name.now in
    found-lent c.get.result _ (ap (λ vs. names_in vs name) (sym c.self.view_is) ∙ names_in-variable_list name c.self.inside.values ∙ sym c.get.ensures.value)
