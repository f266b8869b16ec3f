use Rattle.std.proofs.Common.{arith}
use Rattle.kc_graph.specs.Graph.{IsOrder}
use Rattle.kc_graph.proofs.GraphLaws.{no_loop}
use Rattle.kc_graph.proofs.SearchSteps.{IsOrder-from_sound}
use Rattle.kc_graph.proofs.graph.Graph.order.Goals as goal
use Rattle.kc_graph.proofs.graph.Graph.order.Goals.{After-into_order}

is_order : (c : After-into_order) → IsOrder c.args.self.now c.into_order.result.items
is_order c =
    let i = c.loop-root.invariant in
    rw c.into_order.ensures (IsOrder-from_sound c.args.self.now c.loop-root.search.marks.items c.loop-root.search.order.items (rw i.rested at i.sound) (λ p h. i.seen p (omega arith)))

pub returns-clause-ok : goal.returns-clause-ok
returns-clause-ok c = is_order c

pub returns-clause-acyclic : goal.returns-clause-acyclic
returns-clause-acyclic c = no_loop c.args.self.now c.into_order.result.items (is_order c)
