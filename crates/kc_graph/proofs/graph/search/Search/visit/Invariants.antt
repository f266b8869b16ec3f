use Rattle.kc_graph.specs.Search.{IsSeen, IsSound, StaysSeen, steps_left}
use Rattle.kc_graph.proofs.graph.search.Search.visit.Given as goal

abbrev pub invariant-loop-top : goal.invariant-loop-top
invariant-loop-top l = record {
  sound : IsSound l.graph l.self.marks.items l.self.path.items l.self.order.items;
  stays : StaysSeen l.fn.self.marks.items l.self.marks.items;
  seen : IsSeen l.self.marks.items l.root;
}

abbrev pub decreases-loop-top : goal.decreases-loop-top
decreases-loop-top l = steps_left l.graph l.self.marks.items
