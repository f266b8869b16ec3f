use Rattle.std.proofs.Common.{◌≡◌, ◌++◌, ◌∷◌, [], ◌+◌, ℕ, get_or, take, subst, ⊎_elim, inl, inr, sym, arith}
use Rattle.std.specs.List.{Contains}
use Rattle.std.proofs.lemmas.List.{take_all, take_more}
use Rattle.std.proofs.lemmas.List.Elements.{Contains-append_left, Contains-get_or, Contains-push, Contains-push_cases}
use Rattle.kc_value.specs.DropWalk.{DropsAll}
use Rattle.kc_value.proofs.DropSteps.{drops_then, nothing_dropped}
use Rattle.kc_value.proofs.dropping.drop_row.Goals as goal

pub drop_one-requires-clause-inside : goal.drop_one-requires-clause-inside
drop_one-requires-clause-inside c =
    let listed = Contains-get_or c.args.numbers.now c.loop-number.number-index 0 c.loop-number-test.true in
    omega (arith, c.requires.inside _ listed, c.loop-number.invariant.drops.whole)

pub drop_one-requires-clause-room : goal.drop_one-requires-clause-room
drop_one-requires-clause-room c = omega (arith, c.requires.room, c.loop-number.invariant.drops.room, c.loop-number.invariant.capacity)

pub loop-number-init : goal.loop-number-init
loop-number-init c = record {
  drops = nothing_dropped (Contains (take 0 c.args.numbers.now)) c.args.values.now c.args.list.now.items (λ k listed. absurd (omega (arith, listed.1)));
  capacity = omega arith;
}

pub loop-number-preserved : goal.loop-number-preserved
loop-number-preserved c =
    let now = c.loop-number in
    let numbers = c.args.numbers.now in
    let i = now.number-index in
    let next : ℕ = get_or numbers i 0 in
    let more : take (i + 1) numbers ≡ take i numbers ++ next ∷ [] = take_more numbers i 0 c.loop-number-test.true in
    record {
      drops = drops_then (Contains (take i numbers)) (λ k. k ≡ next) (Contains (take (i + 1) numbers)) c.args.values.now now.values c.drop_one.new.values
          c.args.list.now.items now.list.items c.drop_one.new.list.items
          (λ k listed. subst (λ xs. Contains xs k) (sym more) (Contains-append_left (take i numbers) (next ∷ []) k listed))
          (λ k e. subst (λ xs. Contains xs k) (sym more) (subst (Contains (take i numbers ++ next ∷ [])) (sym e) (Contains-push (take i numbers) next)))
          (λ k listed. ⊎_elim (λ early. inl early) (λ same. inr (sym same)) (Contains-push_cases (take i numbers) next k (subst (λ xs. Contains xs k) more listed)))
          now.invariant.drops c.drop_one.ensures.drops;
      capacity = omega (arith, now.invariant.capacity, c.drop_one.ensures.capacity);
    }

pub returns-clause-drops : goal.returns-clause-drops
returns-clause-drops c =
    let now = c.loop-number in
    subst (λ ks. DropsAll (Contains ks) c.args.values.now now.values c.args.list.now.items now.list.items)
    (take_all now.number-index c.args.numbers.now (omega (arith, c.loop-number-test.false))) now.invariant.drops
