use Rattle.std.proofs.Common.{map, slice_get, take, ◌+◌, ℕ, sym, subst, ◌∙◌}
use Rattle.std.proofs.lemmas.List.{take_all}
use Rattle.std.specs.Option.{option_map_or}
use Rattle.kc_statement.specs.Tristate.{greatest_of}
use Rattle.kc_statement.specs.declared.tri.Tri.{Tri}
use Rattle.kc_statement.specs.declared.tri.Tri.TheVariants.{No}
use Rattle.kc_value.specs.Conditions.{dependency}
use Rattle.kc_value.specs.Solution.{solution}
use Rattle.kc_bounds.specs.TriSets.{IsIn}
use Rattle.kc_bounds.proofs.DefinitionLists.{greatest_there}
use Rattle.kc_bounds.proofs.TakenLists.{greatest_at_number}
use Rattle.kc_bounds.proofs.symbols.direct_set.Goals as goal

pub loop-number-preserved : goal.loop-number-preserved
loop-number-preserved c = λ w u.
    let t = c.args.bounds.now.tree in
    let f : ℕ → Tri = λ n. option_map_or (dependency t (solution t w)) (slice_get t.definitions n) No in
    let i = c.loop-number.number-index in
    let before = subst (λ xs. IsIn c.loop-number.greatest (greatest_of (map f (take i xs)))) (sym c.definitions-number-items.ensures) (c.loop-number.invariant w u) in
    subst (λ xs. IsIn c.or-greatest.result (greatest_of (map f (take (i + 1) xs)))) c.definitions-number-items.ensures
    (subst (IsIn c.or-greatest.result) (greatest_at_number c.definitions-number-items.result.now i c.loop-number-test.true f)
    (c.or-greatest.ensures _ _ before (c.dependency_set.ensures w u)))

pub returns : goal.returns
returns c = λ w u.
    let t = c.args.bounds.now.tree in
    let f : ℕ → Tri = λ n. option_map_or (dependency t (solution t w)) (slice_get t.definitions n) No in
    let i = c.loop-number.number-index in
    let before = subst (λ xs. IsIn c.loop-number.greatest (greatest_of (map f (take i xs)))) (sym c.definitions-number-items.ensures) (c.loop-number.invariant w u) in
    let all = subst (λ xs. IsIn c.loop-number.greatest (greatest_of (map f xs))) (take_all i c.definitions-number-items.result.now c.loop-number-test.false ∙ c.definitions-number-items.ensures) before in
    subst (IsIn c.loop-number.greatest) (greatest_there (slice_get t.definitions) (dependency t (solution t w)) c.args.symbol.now.definitions) all
