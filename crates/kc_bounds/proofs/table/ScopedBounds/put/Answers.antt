use Rattle.std.proofs.Common.{◌<◌, sym, subst}
use Rattle.kc_tree.specs.Cells.{cell_at, cell_count}
use Rattle.kc_value.specs.Assignment.{as_tri}
use Rattle.kc_value.specs.Kept.{cell_worth}
use Rattle.kc_bounds.specs.Bounds.{ScopedValue, CoversIn}
use Rattle.kc_bounds.proofs.BoundsLaws.{with_set}
use Rattle.kc_bounds.proofs.table.ScopedBounds.put.Goals as goal

pub invariant_of-self : goal.invariant_of-self
invariant_of-self c =
    let seen = sym c.self.view_is in
    let inside = subst (λ (b : ScopedValue). c.args.number < cell_count b.tree) seen c.requires.inside in
    let covers = subst (λ (b : ScopedValue). CoversIn b.tree b.modules c.args.set (λ a. as_tri (cell_worth b.tree a (cell_at b.tree c.args.number)))) seen c.requires.covers in
    with_set _ c.args.number c.args.set c.self.invariant c.use_table.ensures.laws inside covers
