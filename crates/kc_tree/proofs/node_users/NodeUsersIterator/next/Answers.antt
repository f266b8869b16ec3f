use Rattle.std.proofs.Common.{◌≡◌, ◌<◌, ◌∷◌, length, map, reverse, sym, ap, ◌∙◌, arith}
use Rattle.std.proofs.lemmas.List.{length-map, length-reverse}
use Rattle.kc_tree.specs.Nodes.{node_in}
use Rattle.kc_tree.proofs.UserLaws.{condition_step, last_first, node_step, room_left, row_step}
use Rattle.kc_tree.proofs.node_users.NodeUsersIterator.next.Goals as goal

pub loop-row-preserved-in_default-split_first : goal.loop-row-preserved-in_default-split_first
loop-row-preserved-in_default-split_first c =
    let s = c.loop-row.self-inside in
    let known = c.loop-row.invariant in
    let popped = last_first (λ r. r.now) s.left.items c.pop.new.self.items c.in-Some.row c.in-Some.ensures.items in
    let step = row_step s.nodes s.users.now _ known.path c.in-Some.row.now _ popped c.in_default-split_first.ensures.cases in
    record { same = ap (map (node_in s.symbols)) (sym step.0) ∙ known.same; few = known.few; path = step.1 }

pub invariant_of-self : goal.invariant_of-self
invariant_of-self c =
    let s = c.loop-row.self-inside in
    let known = c.loop-row.invariant in
    let popped = last_first (λ r. r.now) s.left.items c.pop.new.self.items c.in-Some.row c.in-Some.ensures.items in
    let pushed = last_first (λ r. r.now) c.push.new.self.items c.pop.new.self.items c.in-Some-split_first.rest c.push.ensures.items in
    let step = node_step s.nodes s.users.now _ known.path c.in-Some.row.now _ popped c.in-Some-split_first.first.now c.in-Some-split_first.rest.now c.in-Some-split_first.ensures.cases.0 c.if-first-self.true _ pushed in
    (known.few, step.1)

pub push-requires-in-Some : goal.push-requires-in-Some
push-requires-in-Some c =
    let s = c.loop-row.self-inside in
    let known = c.loop-row.invariant in
    let popped = last_first (λ r. r.now) s.left.items c.pop.new.self.items c.in-Some.row c.in-Some.ensures.items in
    let pushed = last_first (λ r. r.now) c.push.new.self.items c.pop.new.self.items c.in-Some-split_first.rest c.push.ensures.items in
    let room = room_left s.nodes s.users.now _ known.path c.in-Some.row.now _ popped c.in-Some-split_first.first.now c.in-Some-split_first.rest.now c.in-Some-split_first.ensures.cases.0 c.if-first-self.false in
    let count : length c.push.new.self.items ≡ length (c.in-Some-split_first.rest.now ∷ reverse (map (λ r. r.now) c.pop.new.self.items)) =
    sym (length-reverse (map (λ r. r.now) c.push.new.self.items) ∙ length-map c.push.new.self.items (λ r. r.now)) ∙ ap length pushed in
    let few : length c.push.new.self.items < 66 = omega (arith, room, count) in
    (omega arith, few)

pub loop-row-smaller : goal.loop-row-smaller
loop-row-smaller c =
    let s = c.loop-row.self-inside in
    let known = c.loop-row.invariant in
    let rest = c.in-Some-split_first.rest in
    let popped = last_first (λ r. r.now) s.left.items c.pop.new.self.items c.in-Some.row c.in-Some.ensures.items in
    let pushed = last_first (λ r. r.now) c.push.new.self.items c.pop.new.self.items rest c.push.ensures.items in
    let more = last_first (λ r. r.now) c.push-in-Some.new.self.items c.push.new.self.items c.row.result c.push-in-Some.ensures.items ∙ ap (λ rs. c.row.result.now ∷ rs) pushed in
    (condition_step s.nodes s.users.now _ known.path c.in-Some.row.now _ popped c.in-Some-split_first.first.now rest.now c.in-Some-split_first.ensures.cases.0 c.if-first-self.false c.row.result.now c.row.ensures.row _ more).2

pub loop-row-preserved : goal.loop-row-preserved
loop-row-preserved c =
    let s = c.loop-row.self-inside in
    let known = c.loop-row.invariant in
    let rest = c.in-Some-split_first.rest in
    let popped = last_first (λ r. r.now) s.left.items c.pop.new.self.items c.in-Some.row c.in-Some.ensures.items in
    let pushed = last_first (λ r. r.now) c.push.new.self.items c.pop.new.self.items rest c.push.ensures.items in
    let more = last_first (λ r. r.now) c.push-in-Some.new.self.items c.push.new.self.items c.row.result c.push-in-Some.ensures.items ∙ ap (λ rs. c.row.result.now ∷ rs) pushed in
    let step = condition_step s.nodes s.users.now _ known.path c.in-Some.row.now _ popped c.in-Some-split_first.first.now rest.now c.in-Some-split_first.ensures.cases.0 c.if-first-self.false c.row.result.now c.row.ensures.row _ more in
    record { same = ap (map (node_in s.symbols)) (sym step.0) ∙ known.same; few = known.few; path = step.1 }
