use Rattle.std.proofs.Common.{◌≡◌, Some, ◌∙◌, ap, subst, sym}
use Rattle.std.proofs.lemmas.Option.{slice_get-get_or}
use Rattle.std.specs.List.{slice_get}
use Rattle.kc_graph.specs.Graph.{IsClosed, row}
use Rattle.kc_graph.proofs.GraphLaws.{use_within}
use Rattle.kc_graph.proofs.graph.Graph.use_at.Goals as goal

pub returns-clause-within : goal.returns-clause-within
returns-clause-within c =
    let uses = c.row.result.now in
    let lookup = c.in_ok-used.ensures.lookup in
    let found = slice_get-get_or uses c.args.next c.in_ok-used.used.now lookup.3.0 ∙ ap Some (sym lookup.1) in
    let is : uses ≡ row c.args.self.now c.args.node = c.row.ensures.row ∙ ap (λ rows. row rows c.args.node) c.self.view_is in
    use_within c.args.self.now c.args.node c.args.next (Some c.in_ok-used.used.now) (subst IsClosed c.self.view_is c.self.invariant.0) (sym found ∙ ap (λ us. slice_get us c.args.next) is)
