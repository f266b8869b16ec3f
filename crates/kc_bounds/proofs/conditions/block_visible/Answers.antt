use Rattle.std.proofs.Common.{◌≡◌, Some, ap, sym, subst, ◌∙◌}
use Rattle.std.specs.List.{slice_get}
use Rattle.std.specs.Option.{option_copied}
use Rattle.kc_outline.specs.TreeValue.{blocks_around}
use Rattle.kc_value.specs.Conditions.{blocks_visible}
use Rattle.kc_value.specs.ExprValue.{conditions_value}
use Rattle.kc_value.specs.Solution.{solution}
use Rattle.kc_bounds.specs.TriSets.{IsIn}
use Rattle.kc_bounds.proofs.conditions.block_visible.Goals as goal

pub returns : goal.returns
returns c = λ w u.
    let t = c.args.bounds.now.tree in
    let at : slice_get t.blocks c.args.id.0 ≡ Some c.in-Some.block.now = sym c.block.ensures.block ∙ ap (λ o. option_copied o) c.in-Some.is in
    let lines = subst (λ es. IsIn c.conditions_set-lines.result (conditions_value t (solution t w) es)) c.visible.ensures (c.conditions_set-lines.ensures w u) in
    let around = subst (λ p. IsIn c.visible_around.result (blocks_visible t (solution t w) (blocks_around t p))) c.parent.ensures (c.visible_around.ensures w u) in
    subst (λ bs. IsIn c.and.result (blocks_visible t (solution t w) bs)) (sym (c.block.ensures.accepted.nested.around c.args.id c.in-Some.block.now at))
    (c.and.ensures _ _ lines around)
