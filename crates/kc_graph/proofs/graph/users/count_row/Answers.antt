use Rattle.std.proofs.Common.{◌+◌, ◌<◌, List, ℕ, length, set, ap, sym, subst, arith, length-take-le}
use Rattle.std.proofs.lemmas.List.{get_or_read, take_all}
use Rattle.std.proofs.lemmas.Option.{slice_get_within, get_or_from_slice_get}
use Rattle.kc_graph.specs.Graph.{row}
use Rattle.kc_graph.specs.Users.{AddsCounts}
use Rattle.kc_graph.proofs.UseCounts.{AddsCounts-none, AddsCounts-more, count_within, ended}
use Rattle.kc_graph.proofs.graph.users.count_row.Goals as goal
use Rattle.kc_graph.proofs.graph.users.count_row.Goals.{In-Some}

pub loop-used-init : goal.loop-used-init
loop-used-init c = record {
  within = omega arith;
  counted = AddsCounts-none c.args.counts.now.items;
}

inside : (c : In-Some) → c.in-Some.used < length c.args.counts.now.items
inside c = omega (arith, c.in-Some.ensures.within, c.requires.size)

-- so it has a count
within : (c : In-Some) → c.in-Some.used < length c.loop-used.counts.items
within c = omega (arith, inside c, c.loop-used.invariant.counted.size)

next : (c : In-Some) → c.loop-used.next < length (row c.args.graph.now c.args.user)
next c = slice_get_within (row c.args.graph.now c.args.user) c.loop-used.next c.in-Some.used (sym c.in-Some.ensures.used)

pub overflow_add-index_mut : goal.overflow_add-index_mut
overflow_add-index_mut c =
    let h = (goal.at.overflow_add-index_mut c).In-Some in
    let now = c.loop-used.counts.items in
    let x = c.in-Some.used in
    let uses = row c.args.graph.now c.args.user in
    let read = get_or_read now x c.index_mut.result.now (within h) c.index_mut.ensures.value 0 in
    omega (arith, read, count_within now x (within h), c.loop-used.invariant.counted.total, length-take-le c.loop-used.next uses c.loop-used.invariant.within, next h, c.requires.few)

pub loop-used-smaller : goal.loop-used-smaller
loop-used-smaller c = let h = (goal.at.loop-used-smaller c).In-Some in omega (arith, next h)

pub loop-used-preserved : goal.loop-used-preserved
loop-used-preserved c =
    let h = (goal.at.loop-used-preserved c).In-Some in
    let uses = row c.args.graph.now c.args.user in
    let k = c.loop-used.next in
    let x = c.in-Some.used in
    let now = c.loop-used.counts.items in
    let is = get_or_from_slice_get uses k x 0 (sym c.in-Some.ensures.used) in
    let read = get_or_read now x c.index_mut.result.now (within h) c.index_mut.ensures.value 0 in
    record {
      within = omega (arith, next h);
      counted = AddsCounts-more c.args.counts.now.items now _ uses k x c.loop-used.invariant.counted (next h) is (inside h) (ap (λ (n : ℕ). set now x (n + 1)) read);
    }

pub returns : goal.returns
returns c =
    let uses = row c.args.graph.now c.args.user in
    let all = take_all c.loop-used.next uses (ended uses c.loop-used.next _ c.use_at.ensures.used c.in_default.not-Some) in
    let P : List ℕ → Type 0 = λ us. AddsCounts c.args.counts.now.items c.loop-used.counts.items us in
    subst P all c.loop-used.invariant.counted
