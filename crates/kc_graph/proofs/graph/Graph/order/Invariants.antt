use Rattle.std.proofs.Common.{◌≡◌, ℕ, ◌<◌, []}
use Rattle.kc_graph.specs.Search.{IsSeen, IsSound}
use Rattle.kc_graph.proofs.graph.Graph.order.Given as goal

abbrev pub invariant-loop-root : goal.invariant-loop-root
invariant-loop-root l = record {
  sound : IsSound l.self l.search.marks.items l.search.path.items l.search.order.items;
  rested : l.search.path.items ≡ [];
  seen : (p : ℕ) → p < l.root → IsSeen l.search.marks.items p;
}
