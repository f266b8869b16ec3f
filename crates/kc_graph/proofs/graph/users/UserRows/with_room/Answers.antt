use Rattle.std.proofs.Common.{◌≡◌, length, sum, arith}
use Rattle.kc_graph.proofs.RoomLaws.{none_first, room_first}
use Rattle.kc_graph.proofs.graph.users.UserRows.with_room.Goals as goal
use Rattle.kc_graph.proofs.graph.users.UserRows.with_room.Goals.{In_ok-users}

-- there is a place for each user
long : (c : In_ok-users) → length c.in_ok-users.users.items ≡ sum c.in_ok-places.places.items
long c = omega (arith, c.in_ok-users.ensures.len, c.in_ok-users.users.ok.0, c.sum_counts-total.ensures.total)

pub returns-clause-room : goal.returns-clause-room
returns-clause-room c =
    let counts = c.in_ok-places in
    let to = c.sum_counts-total in
    room_first c.args.graph.now counts.places.items to.new.counts.items c.in_ok-users.users.items counts.ensures.counts to.ensures.size to.ensures.sums (long (goal.at.returns-clause-room c).In_ok-users)

pub returns-clause-empty : goal.returns-clause-empty
returns-clause-empty c =
    let counts = c.in_ok-places in
    let to = c.sum_counts-total in
    none_first c.args.graph.now counts.places.items to.new.counts.items c.in_ok-users.users.items counts.ensures.counts to.ensures.size to.ensures.sums (long (goal.at.returns-clause-empty c).In_ok-users)
