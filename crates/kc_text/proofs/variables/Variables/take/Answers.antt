use Rattle.std.proofs.Common.{None, ap, sym, ◌∙◌}
use Rattle.std.proofs.lemmas.Map.Text.{btree_map_updates_text}
use Rattle.kc_text.specs.Definitions.{with}
use Rattle.kc_text.specs.Expansion.{names_in}
use Rattle.kc_text.proofs.Names.{names_in-variable_list, with-updated}
use Rattle.kc_text.proofs.variables.Variables.take.Goals as goal

pub returns-clause-value : goal.returns-clause-value
returns-clause-value c =
    let name = c.args.name.now in
    c.remove.ensures.value ∙ sym (names_in-variable_list name c.self.inside.values) ∙ ap (λ vs. names_in vs name) c.self.view_is

pub returns-clause-others : goal.returns-clause-others
returns-clause-others c = λ v.
    let name = c.args.name.now in
    let m = c.self.inside.values in
    let n = c.remove.new.self in
    with-updated name v None m n (btree_map_updates_text name m n None c.remove.ensures.updates)
    ∙ ap (λ vs. with name v (names_in vs)) c.self.view_is
