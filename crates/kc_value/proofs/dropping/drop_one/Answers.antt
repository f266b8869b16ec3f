use Rattle.std.proofs.Common.{◌≡◌, [], ◌∷◌, ◌++◌, ◌<◌, ℕ, true, true≢false, None, get_or, sym, ◌∙◌, subst, arith, vec_len, vec_capacity, List, Result, Ok, Err, IsOk, is_ok, if◌then◌else◌}
use Rattle.std.specs.Prelude.{is_some}
use Rattle.std.specs.List.{slice_set}
use Rattle.kc_value.specs.DropWalk.{DropsAll}
use Rattle.kc_value.proofs.DropSteps.{fewer_kept, none_has, nothing_dropped, one_dropped}
use Rattle.kc_value.proofs.dropping.drop_one.Goals as goal

when_ok : {A E : Type 0} (r : Result A E) (new more old : List ℕ) → new ≡ (if is_ok r then more else old) → IsOk r → new ≡ more
when_ok (Ok x) new more old e ok = e
when_ok (Err x) new more old e ok = absurd (true≢false (sym ok))

pub returns-then-has-clause-drops : goal.returns-then-has-clause-drops
returns-then-has-clause-drops c =
    let old = c.args.values.now in
    let list = c.args.list.now.items in
    let k = c.args.number in
    let kept : is_some (get_or old k None) ≡ true = sym c.has.ensures ∙ c.if-has.true in
    let room : vec_len c.args.list.now < vec_capacity c.args.list.now = omega (arith, fewer_kept old k kept, c.requires.room, c.args.list.now.ok.0) in
    let one : c.push.new.self.items ≡ list ++ k ∷ [] = when_ok c.push.result c.push.new.self.items (list ++ k ∷ []) list c.push.ensures.items (c.push.ensures.succeeds room) in
    subst (λ vs. DropsAll (λ j. j ≡ k) old vs list c.push.new.self.items) (sym c.remove.ensures)
    (subst (λ xs. DropsAll (λ j. j ≡ k) old (slice_set old k None) list xs) (sym one) (one_dropped old list k kept))

pub returns-else-has-clause-drops : goal.returns-else-has-clause-drops
returns-else-has-clause-drops c =
    let old = c.args.values.now in
    nothing_dropped (λ j. j ≡ c.args.number) old c.args.list.now.items (λ j e. subst (λ i. get_or old i None ≡ None) (sym e) (none_has old c.args.number (sym c.has.ensures ∙ c.if-has.false)))
