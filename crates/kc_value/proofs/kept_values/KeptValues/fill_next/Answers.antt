use Rattle.std.proofs.Common.{◌≡◌, false, None, get_or, sym, ap, ◌∙◌, subst, arith}
use Rattle.std.specs.Prelude.{is_some}
use Rattle.kc_tree.specs.Nodes.{all_nodes}
use Rattle.kc_tree.specs.Cells.{cell_at}
use Rattle.kc_value.specs.Assignment.{assignment_of}
use Rattle.kc_value.specs.FillWalk.{HasValue, cell_rule}
use Rattle.kc_value.specs.Kept.{AreKept, Fills, KeptValue}
use Rattle.kc_value.proofs.FillSteps.{is_none, one_more_right, one_more_filled, nothing_added, value_here, value_stays}
use Rattle.kc_value.proofs.OrderSteps.{reached_all}
use Rattle.kc_value.proofs.SolvedLaws.{kept_right}
use Rattle.kc_value.proofs.kept_values.KeptValues.fill_next.Goals as goal

pub evaluate-requires-clause-right : goal.evaluate-requires-clause-right
evaluate-requires-clause-right c = kept_right c.args.tree.now c.requires.laws c.args.user.now c.args.self.now.values c.requires.kept

pub returns-then-has-clause-fills : goal.returns-then-has-clause-fills
returns-then-has-clause-fills c = nothing_added c.args.tree.now (all_nodes c.args.tree.now) c.args.self.now

pub returns-then-has-clause-done : goal.returns-then-has-clause-done
returns-then-has-clause-done c =
    let values : c.self.inside.values ≡ c.args.self.now.values = ap (λ (k : KeptValue). k.values) c.self.view_is in
    subst (HasValue c.args.self.now.values) (sym (c.requires.laws.at c.args.number c.requires.inside))
    (subst (λ vs. HasValue vs c.args.number) values (sym c.has.ensures ∙ c.if-has.true))

pub returns-in_err-evaluate-clause-fills : goal.returns-in_err-evaluate-clause-fills
returns-in_err-evaluate-clause-fills c =
    subst (Fills c.args.tree.now (all_nodes c.args.tree.now) c.args.self.now) (sym c.in_err-evaluate.ensures.stays) (nothing_added c.args.tree.now (all_nodes c.args.tree.now) c.args.self.now)

pub returns-clause-kept : goal.returns-clause-kept
returns-clause-kept c =
    let t = c.args.tree.now in
    let u = c.args.user.now in
    subst (λ vs. AreKept t u vs) (sym c.in_ok-evaluate.ensures.value)
    (one_more_right t c.requires.laws u c.args.self.now.values c.requires.accepted c.requires.kept c.args.number c.requires.inside c.requires.ready)

pub returns-clause-fills : goal.returns-clause-fills
returns-clause-fills c =
    let t = c.args.tree.now in
    let old = c.args.self.now in
    let k = c.args.number in
    let v = cell_rule t c.args.user.now (assignment_of t old.values) (cell_at t k) in
    let values : c.self.inside.values ≡ old.values = ap (λ (k : KeptValue). k.values) c.self.view_is in
    one_more_filled t c.requires.laws (all_nodes t) old old c.evaluate.new.self k v c.requires.inside c.requires.kept.closed.whole
    (reached_all t c.requires.laws k c.requires.inside) (is_none (get_or old.values k None) (subst (λ vs. is_some (get_or vs k None) ≡ false) values (sym c.has.ensures ∙ c.if-has.false))) (nothing_added t (all_nodes t) old)
    c.in_ok-evaluate.ensures.value c.in_ok-evaluate.ensures.counted

pub returns-clause-stay : goal.returns-clause-stay
returns-clause-stay c =
    let t = c.args.tree.now in
    let old = c.args.self.now in
    let k = c.args.number in
    let v = cell_rule t c.args.user.now (assignment_of t old.values) (cell_at t k) in
    λ j h. subst (λ vs. HasValue vs j) (sym c.in_ok-evaluate.ensures.value) (value_stays old.values k v (omega (arith, c.requires.inside, c.requires.kept.closed.whole)) j h)

pub returns-clause-done : goal.returns-clause-done
returns-clause-done c =
    let t = c.args.tree.now in
    let old = c.args.self.now in
    let k = c.args.number in
    let v = cell_rule t c.args.user.now (assignment_of t old.values) (cell_at t k) in
    subst (HasValue c.evaluate.new.self.values) (sym (c.requires.laws.at k c.requires.inside))
    (subst (λ vs. HasValue vs k) (sym c.in_ok-evaluate.ensures.value) (ap is_some (value_here old.values k v (omega (arith, c.requires.inside, c.requires.kept.closed.whole)))))
