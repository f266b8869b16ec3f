use Rattle.std.proofs.Common.{◌≡◌, ◌+◌, ◌++◌, ◌∷◌, ◌<◌, List, ℕ, drop, get_or, length, sym, ap, subst, ◌∙◌, arith, length-set}
use Rattle.std.proofs.lemmas.List.{drop_all, take_all}
use Rattle.std.proofs.lemmas.Option.{slice_get_within, get_or_from_slice_get}
use Rattle.kc_graph.specs.Graph.{row}
use Rattle.kc_graph.specs.Users.{users_of, uses_in, AddsUser, HasRoomFor}
use Rattle.kc_graph.proofs.RoomLaws.{grown_next, kept_next, next_left, place_within, room_next}
use Rattle.kc_graph.proofs.UseCounts.{ended, uses_in-rest}
use Rattle.kc_graph.proofs.UsersSteps.{AddsUser-more, AddsUser-none}
use Rattle.kc_graph.proofs.graph.users.UserRows.add_uses.Goals as goal
use Rattle.kc_graph.proofs.graph.users.UserRows.add_uses.Goals.{In-Some}

pub loop-used-init : goal.loop-used-init
loop-used-init c =
    let g = c.args.graph.now in
    let P : List ℕ → Type 0 = λ left. HasRoomFor c.args.self.now (uses_in g) left in
    record {
      within = omega arith;
      size = c.requires.size;
      room = subst P (uses_in-rest g c.args.user c.requires.inside) c.requires.room;
      added = AddsUser-none (users_of c.args.self.now (uses_in g)) c.args.user;
    }

-- the use is one of the row
is : (c : In-Some) → get_or (row c.args.graph.now c.args.user) c.loop-used.next 0 ≡ c.in-Some.used
is c = get_or_from_slice_get (row c.args.graph.now c.args.user) c.loop-used.next c.in-Some.used 0 (sym c.in-Some.ensures.used)

next : (c : In-Some) → c.loop-used.next < length (row c.args.graph.now c.args.user)
next c = slice_get_within (row c.args.graph.now c.args.user) c.loop-used.next c.in-Some.used (sym c.in-Some.ensures.used)

inside : (c : In-Some) → c.in-Some.used < length c.loop-used.self.places.items
inside c = omega (arith, c.in-Some.ensures.within, c.loop-used.invariant.size)

-- the uses that are left after it
abbrev left : In-Some → List ℕ
left c = drop (c.loop-used.next + 1) (row c.args.graph.now c.args.user) ++ uses_in (drop (c.args.user + 1) c.args.graph.now)

room : (c : In-Some) → HasRoomFor c.loop-used.self (uses_in c.args.graph.now) (c.in-Some.used ∷ left c)
room c =
    let g = c.args.graph.now in
    let P : List ℕ → Type 0 = λ uses. HasRoomFor c.loop-used.self (uses_in g) uses in
    subst P (next_left (row g c.args.user) (uses_in (drop (c.args.user + 1) g)) c.loop-used.next c.in-Some.used (next c) (is c)) c.loop-used.invariant.room

pub add_user-requires-clause-inside : goal.add_user-requires-clause-inside
add_user-requires-clause-inside c = inside (goal.at.add_user-requires-clause-inside c).In-Some

pub add_user-requires-clause-place : goal.add_user-requires-clause-place
add_user-requires-clause-place c =
    let h = (goal.at.add_user-requires-clause-place c).In-Some in
    let s = c.loop-used.self in
    place_within s.places.items s.users.items (uses_in c.args.graph.now) (left h) c.in-Some.used c.args.user (inside h) (room h)

pub loop-used-preserved : goal.loop-used-preserved
loop-used-preserved c =
    let h = (goal.at.loop-used-preserved c).In-Some in
    let s = c.loop-used.self in
    let t = c.add_user.new.self in
    let uses = uses_in c.args.graph.now in
    let x = c.in-Some.used in
    let to = c.add_user.ensures in
    record {
      within = omega (arith, next h);
      size = ap length to.places ∙ length-set s.places.items x _ ∙ c.loop-used.invariant.size;
      room = room_next s.places.items s.users.items uses (left h) x c.args.user (inside h) (room h) t.places.items t.users.items to.places to.users;
      added = AddsUser-more (users_of c.args.self.now uses) (users_of s uses) (users_of t uses) (row c.args.graph.now c.args.user) c.args.user c.loop-used.next x c.loop-used.invariant.added (next h) (is h)
          (grown_next s.places.items s.users.items uses (left h) x c.args.user (inside h) (room h) t.places.items t.users.items to.places to.users)
          (kept_next s.places.items s.users.items uses (left h) x c.args.user (inside h) (room h) t.places.items t.users.items to.places to.users);
    }

pub returns-clause-room : goal.returns-clause-room
returns-clause-room c =
    let g = c.args.graph.now in
    let uses = row g c.args.user in
    let none = drop_all c.loop-used.next uses (ended uses c.loop-used.next _ c.use_at.ensures.used c.in_default.not-Some) in
    let P : List ℕ → Type 0 = λ us. HasRoomFor c.loop-used.self (uses_in g) (us ++ uses_in (drop (c.args.user + 1) g)) in
    subst P none c.loop-used.invariant.room

pub returns-clause-added : goal.returns-clause-added
returns-clause-added c =
    let g = c.args.graph.now in
    let uses = row g c.args.user in
    let all = take_all c.loop-used.next uses (ended uses c.loop-used.next _ c.use_at.ensures.used c.in_default.not-Some) in
    let P : List ℕ → Type 0 = λ us. AddsUser (users_of c.args.self.now (uses_in g)) (users_of c.loop-used.self (uses_in g)) us c.args.user in
    subst P all c.loop-used.invariant.added
