use Rattle.std.proofs.Common.{true≢false, sym, ◌∙◌}
use Rattle.kc_value.specs.DropWalk.{IsOneIf}
use Rattle.kc_value.proofs.DropSteps.{drops_same, nothing_dropped}
use Rattle.kc_value.proofs.dropping.drop_if.Goals as goal

pub returns-then-changes-clause-drops : goal.returns-then-changes-clause-drops
returns-then-changes-clause-drops c =
    drops_same _ (IsOneIf c.args.changes c.args.number) _ _ _ _ (λ k e. (c.if-changes.true, e)) (λ k h. h.1) c.drop_one.ensures.drops

pub returns-else-changes-clause-drops : goal.returns-else-changes-clause-drops
returns-else-changes-clause-drops c =
    nothing_dropped (IsOneIf c.args.changes c.args.number) c.args.values.now c.args.list.now.items (λ k h. absurd (true≢false (sym h.0 ∙ c.if-changes.false)))
