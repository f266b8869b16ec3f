use Rattle.std.proofs.Common.{length, replicate, take}
use Rattle.kc_graph.specs.Users.{uses_in, AddsCounts}
use Rattle.kc_graph.proofs.graph.users.use_counts.Given as goal

-- the uses of the nodes so far are counted
abbrev pub invariant-loop-user : goal.invariant-loop-user
invariant-loop-user l = AddsCounts (replicate (length l.graph) 0) l.counts.items (uses_in (take l.user l.graph))
