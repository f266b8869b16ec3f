use Rattle.std.proofs.Common.{◌≡◌, drop, length}
use Rattle.kc_graph.specs.Users.{users_of, uses_in, HasRoomFor, IsConverseBelow}
use Rattle.kc_graph.proofs.graph.Graph.users.Given as goal

-- the users among the nodes so far are collected, and the others have room
abbrev pub invariant-loop-user : goal.invariant-loop-user
invariant-loop-user l = record {
  collected : IsConverseBelow l.self (users_of l.users (uses_in l.self)) l.user;
  room : HasRoomFor l.users (uses_in l.self) (uses_in (drop l.user l.self));
  size : length l.users.places.items ≡ length l.self;
}
