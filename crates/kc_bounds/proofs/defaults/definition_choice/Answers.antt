use Rattle.std.proofs.Common.{◌≡◌, Some, slice_get, sym, subst, ◌∙◌, ap}
use Rattle.std.proofs.lemmas.List.{take_all}
use Rattle.std.specs.Option.{option_copied}
use Rattle.kc_value.specs.Solution.{solution}
use Rattle.kc_bounds.specs.Given.{given_at}
use Rattle.kc_bounds.specs.TriSets.{IsAmong}
use Rattle.kc_bounds.proofs.DefinitionLists.{default_is}
use Rattle.kc_bounds.proofs.TakenLists.{first, first_at}
use Rattle.kc_bounds.proofs.defaults.definition_choice.Goals as goal

pub loop-default-preserved : goal.loop-default-preserved
loop-default-preserved c = λ w u.
    let t = c.args.bounds.now.tree in
    subst (IsAmong c.or-found.result)
    (first_at (given_at t (solution t w) c.args.number) c.defaults-default-items.result.now c.loop-default.default-index c.default-item.result c.loop-default-test.true c.default-item.is)
    (c.or-found.ensures _ _ (c.loop-default.invariant w u) (c.default_choice.ensures w u _ (c.dependency_set-depends.ensures w u)))

pub returns : goal.returns
returns c = λ w u.
    let t = c.args.bounds.now.tree in
    let at : slice_get t.definitions c.args.number ≡ Some c.in-Some.definition.now = sym c.definition.ensures ∙ ap (λ o. option_copied o) c.in-Some.is in
    let g = given_at t (solution t w) c.args.number in
    let all = subst (λ xs. IsAmong c.loop-default.found (first g xs))
    (take_all c.loop-default.default-index c.defaults-default-items.result.now c.loop-default-test.false ∙ c.defaults-default-items.ensures) (c.loop-default.invariant w u) in
    subst (IsAmong c.loop-default.found) (default_is t (solution t w) c.args.number c.in-Some.definition.now at) all
