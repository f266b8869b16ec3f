use Rattle.std.proofs.Common.{◌≡◌, ◌*◌, List, [], ℕ, length, replicate, take, sum, sym, ap, subst, ◌∙◌, arith}
use Rattle.std.proofs.lemmas.List.{length-replicate, take_all}
use Rattle.std.proofs.lemmas.List.Folds.{sum_by-replicate}
use Rattle.kc_graph.specs.Users.{uses_in, AddsCounts}
use Rattle.kc_graph.proofs.UseCounts.{AddsCounts-none, AddsCounts-join, few_so_far, length-uses_in, uses_in-more}
use Rattle.kc_graph.proofs.graph.users.use_counts.Goals as goal

pub loop-user-init : goal.loop-user-init
loop-user-init c =
    let zeros : c.in_ok-counts.counts.items ≡ replicate (length c.args.graph.now) 0 = grind arith in
    let P : List ℕ → Type 0 = λ counts. AddsCounts (replicate (length c.args.graph.now) 0) counts (uses_in []) in
    subst P (sym zeros) (AddsCounts-none (replicate (length c.args.graph.now) 0))

pub count_row-requires-clause-size : goal.count_row-requires-clause-size
count_row-requires-clause-size c = c.loop-user.invariant.size ∙ length-replicate (length c.args.graph.now) 0

pub count_row-requires-clause-few : goal.count_row-requires-clause-few
count_row-requires-clause-few c =
    let g = c.args.graph.now in
    omega (arith, c.len-nodes.ensures.few_uses, few_so_far g c.loop-user.counts.items c.loop-user.user (length g) c.loop-user.invariant (omega (arith, c.len-nodes.ensures.len)))

pub loop-user-preserved : goal.loop-user-preserved
loop-user-preserved c =
    let g = c.args.graph.now in
    let k = c.loop-user.user in
    let more = uses_in-more g k (omega (arith, c.len-nodes.ensures.len)) in
    let P : List ℕ → Type 0 = λ us. AddsCounts (replicate (length g) 0) c.count_row.new.counts.items us in
    subst P (sym more)
    (AddsCounts-join (replicate (length g) 0) c.loop-user.counts.items c.count_row.new.counts.items (uses_in (take k g)) _ c.loop-user.invariant c.count_row.ensures)

pub returns-clause-counts : goal.returns-clause-counts
returns-clause-counts c =
    let g = c.args.graph.now in
    let all = take_all c.loop-user.user g (omega (arith, c.len-nodes.ensures.len)) in
    let P : List (List ℕ) → Type 0 = λ rows. AddsCounts (replicate (length g) 0) c.loop-user.counts.items (uses_in rows) in
    subst P all c.loop-user.invariant

pub returns-clause-few : goal.returns-clause-few
returns-clause-few c =
    let g = c.args.graph.now in
    let counted = c.loop-user.invariant in
    let none : sum (replicate (length g) 0) ≡ length g * 0 = sum_by-replicate (λ (m : ℕ). m) (length g) 0 in
    let all = take_all c.loop-user.user g (omega (arith, c.len-nodes.ensures.len)) in
    omega (arith, counted.total, none, ap (λ rows. length (uses_in rows)) all, length-uses_in g, c.len-nodes.ensures.few_uses)
