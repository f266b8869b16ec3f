use Rattle.std.proofs.Common.{◌≡◌, ◌≤◌, ◌+◌, ◌-◌, ◌++◌, drop, length, take}
use Rattle.kc_graph.specs.Graph.{row}
use Rattle.kc_graph.specs.Users.{users_of, uses_in, AddsUser, HasRoomFor}
use Rattle.kc_graph.proofs.graph.users.UserRows.add_uses.Given as goal

-- the user is added at its uses so far, and there is room for the other uses
abbrev pub invariant-loop-used : goal.invariant-loop-used
invariant-loop-used l = record {
  within : l.next ≤ length (row l.graph l.user);
  size : length l.self.places.items ≡ length l.graph;
  room : HasRoomFor l.self (uses_in l.graph) (drop l.next (row l.graph l.user) ++ uses_in (drop (l.user + 1) l.graph));
  added : AddsUser (users_of l.fn.self (uses_in l.graph)) (users_of l.self (uses_in l.graph)) (take l.next (row l.graph l.user)) l.user;
}

abbrev pub decreases-loop-used : goal.decreases-loop-used
decreases-loop-used l = length (row l.graph l.user) - l.next
