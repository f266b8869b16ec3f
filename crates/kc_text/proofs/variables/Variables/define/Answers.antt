use Rattle.std.proofs.Common.{bytes_eq, Some, ap, ◌∙◌}
use Rattle.std.specs.BTreeMap.{get_by_text}
use Rattle.std.specs.Map.{update}
use Rattle.std.proofs.lemmas.Map.Text.{btree_map_updates_text}
use Rattle.kc_text.specs.Definitions.{with}
use Rattle.kc_text.specs.Expansion.{names_in}
use Rattle.kc_text.proofs.Names.{names_in-updated}
use Rattle.kc_text.proofs.variables.Variables.define.Goals as goal

pub returns : goal.returns
returns c =
    let name = c.args.name.now in
    let value = c.args.value in
    let m = c.self.inside.values in
    let n = c.insert.new.self in
    names_in-updated name value m n (λ q.
    btree_map_updates_text _ m n (Some value) c.in_ok-insert.ensures.updates q
    ∙ ap (λ bs. update bytes_eq (get_by_text m) bs (Some value) q) c.in_ok-key.ensures.ok)
    ∙ ap (λ vs. with name value (names_in vs)) c.self.view_is
