use Rattle.std.proofs.Common.{List, ℕ, [], sym, ap, subst, ◌∙◌, arith}
use Rattle.std.proofs.lemmas.List.{drop_all}
use Rattle.kc_graph.specs.Graph.{IsConverse, use_count}
use Rattle.kc_graph.specs.Rows.{rows_in}
use Rattle.kc_graph.specs.Users.{users_of, uses_in, HasRoomFor}
use Rattle.kc_graph.proofs.RoomLaws.{AreEnds-full, row-full}
use Rattle.kc_graph.proofs.RowLaws.{length-rows_from, number_count-all}
use Rattle.kc_graph.proofs.UseCounts.{length-uses_in}
use Rattle.kc_graph.proofs.UsersSteps.{IsConverse-from_below, IsConverseBelow-more, IsConverseBelow-none}
use Rattle.kc_graph.proofs.graph.Graph.users.Goals as goal
use Rattle.kc_graph.proofs.graph.Graph.users.Goals.{After-loop-user}

pub loop-user-init : goal.loop-user-init
loop-user-init c =
    let g = c.args.self.now in
    record {
      collected = IsConverseBelow-none g (users_of c.in_ok-users.users (uses_in g)) c.in_ok-users.ensures.empty;
      room = c.in_ok-users.ensures.room;
      size = c.in_ok-users.ensures.size;
    }

pub loop-user-preserved : goal.loop-user-preserved
loop-user-preserved c =
    let g = c.args.self.now in
    record {
      collected = IsConverseBelow-more g (users_of c.loop-user.users (uses_in g)) (users_of c.add_uses.new.self (uses_in g)) c.loop-user.user c.loop-user.invariant.collected c.add_uses.ensures.added;
      room = c.add_uses.ensures.room;
      size = c.add_uses.ensures.size;
    }

-- no use is left
full : (c : After-loop-user) → HasRoomFor c.loop-user.users (uses_in c.args.self.now) []
full c =
    let g = c.args.self.now in
    let none = drop_all c.loop-user.user g (omega (arith, c.len-nodes.ensures.len, c.loop-user-test.false)) in
    let P : List (List ℕ) → Type 0 = λ rows. HasRoomFor c.loop-user.users (uses_in g) (uses_in rows) in
    subst P none c.loop-user.invariant.room

pub into_rows-requires : goal.into_rows-requires
into_rows-requires c =
    let users = c.loop-user.users in
    AreEnds-full users.places.items users.users.items (uses_in c.args.self.now) (full (goal.at.into_rows-requires c).After-loop-user)

pub returns-clause-converse : goal.returns-clause-converse
returns-clause-converse c =
    let g = c.args.self.now in
    let h = (goal.at.returns-clause-converse c).After-loop-user in
    let users = c.loop-user.users in
    let places = users.places.items in
    let numbers = users.users.items in
    let P : List (List ℕ) → Type 0 = λ rows. IsConverse g rows in
    subst P (sym c.into_rows.ensures)
    (IsConverse-from_below g (rows_in numbers places) (users_of users (uses_in g)) c.loop-user.user c.loop-user.invariant.collected
    (omega (arith, c.len-nodes.ensures.len, c.loop-user-test.false))
    (length-rows_from numbers 0 places ∙ c.loop-user.invariant.size)
    (row-full places numbers (uses_in g) (full h)))

pub returns-clause-count : goal.returns-clause-count
returns-clause-count c =
    let g = c.args.self.now in
    let r = full (goal.at.returns-clause-count c).After-loop-user in
    let users = c.loop-user.users in
    ap use_count c.into_rows.ensures
    ∙ number_count-all users.users.items users.places.items (AreEnds-full users.places.items users.users.items (uses_in g) r)
    ∙ r.size ∙ length-uses_in g
