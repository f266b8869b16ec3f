use Rattle.std.proofs.Common.{sym, ap, ◌∙◌, subst}
use Rattle.std.specs.Prelude.{replicate}
use Rattle.kc_bounds.specs.Bounds.{AreScopedBounds}
use Rattle.kc_bounds.specs.TriSets.{any_tri}
use Rattle.kc_bounds.proofs.BoundsLaws.{at_first}
use Rattle.kc_bounds.proofs.table.ScopedBounds.any.Goals as goal

pub invariant_of-result : goal.invariant_of-result
invariant_of-result c =
    let all = c.in_ok-sets.ensures ∙ ap (λ n. replicate n any_tri) c.cell_count.ensures.count in
    subst (λ xs. AreScopedBounds (record { tree = c.args.tree.now; modules = c.args.modules; sets = xs })) (sym all) (at_first c.args.tree.now c.args.modules c.use_table.ensures.laws c.new.ensures.solved)
