use Rattle.std.proofs.Common.{subst}
use Rattle.kc_value.specs.Rule.{reverse_value}
use Rattle.kc_value.specs.Solution.{solution}
use Rattle.kc_bounds.specs.TriSets.{IsIn}
use Rattle.kc_bounds.proofs.TakenLists.{greatest_at}
use Rattle.kc_bounds.proofs.symbols.reverses_set.Goals as goal

pub loop-reverse-preserved : goal.loop-reverse-preserved
loop-reverse-preserved c = λ w u.
    let t = c.args.bounds.now.tree in
    subst (IsIn c.or-greatest.result)
    (greatest_at (reverse_value t (solution t w)) c.args.reverses.now c.loop-reverse.reverse-index c.reverse-item.result c.loop-reverse-test.true c.reverse-item.is)
    (c.or-greatest.ensures _ _ (c.loop-reverse.invariant w u) (c.reverse_set.ensures w u))
