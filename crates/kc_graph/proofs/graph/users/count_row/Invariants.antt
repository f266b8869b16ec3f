use Rattle.std.proofs.Common.{◌≤◌, ◌-◌, length, take}
use Rattle.kc_graph.specs.Graph.{row}
use Rattle.kc_graph.specs.Users.{AddsCounts}
use Rattle.kc_graph.proofs.graph.users.count_row.Given as goal

-- the uses so far are counted
abbrev pub invariant-loop-used : goal.invariant-loop-used
invariant-loop-used l = record {
  within : l.next ≤ length (row l.graph l.user);
  counted : AddsCounts l.fn.counts.items l.counts.items (take l.next (row l.graph l.user));
}

abbrev pub decreases-loop-used : goal.decreases-loop-used
decreases-loop-used l = length (row l.graph l.user) - l.next
