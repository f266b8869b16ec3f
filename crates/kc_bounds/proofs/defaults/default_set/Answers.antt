use Rattle.std.proofs.Common.{◌+◌, ℕ, Option, slice_get, take, sym, subst, ◌∙◌}
use Rattle.std.proofs.lemmas.List.{take_all}
use Rattle.std.specs.Prelude.{option_and_then}
use Rattle.kc_statement.specs.declared.tri.Tri.{Tri}
use Rattle.kc_statement.specs.declared.tri.Tri.TheVariants.{No}
use Rattle.kc_outline.specs.TreeValue.{DefinitionValue, definitions_of}
use Rattle.kc_value.specs.Rule.{definition_default}
use Rattle.kc_value.specs.Solution.{solution}
use Rattle.kc_bounds.specs.TriSets.{IsAmong}
use Rattle.kc_bounds.proofs.DefinitionLists.{first_given}
use Rattle.kc_bounds.proofs.TakenLists.{first, first_at_number, first_there}
use Rattle.kc_bounds.proofs.defaults.default_set.Goals as goal

pub loop-number-preserved : goal.loop-number-preserved
loop-number-preserved c = λ w u.
    let t = c.args.bounds.now.tree in
    let g : ℕ → Option Tri = λ n. option_and_then (definition_default t (solution t w)) (slice_get t.definitions n) in
    let i = c.loop-number.number-index in
    let before = subst (λ xs. IsAmong c.loop-number.found (first g (take i xs))) (sym c.definitions-number-items.ensures) (c.loop-number.invariant w u) in
    subst (λ xs. IsAmong c.or-found.result (first g (take (i + 1) xs))) c.definitions-number-items.ensures
    (subst (IsAmong c.or-found.result) (first_at_number c.definitions-number-items.result.now i c.loop-number-test.true g)
    (c.or-found.ensures _ _ before (c.definition_choice.ensures w u)))

pub returns : goal.returns
returns c = λ w u.
    let t = c.args.bounds.now.tree in
    let default : DefinitionValue → Option Tri = definition_default t (solution t w) in
    let g : ℕ → Option Tri = λ n. option_and_then default (slice_get t.definitions n) in
    let i = c.loop-number.number-index in
    let before = subst (λ xs. IsAmong c.loop-number.found (first g (take i xs))) (sym c.definitions-number-items.ensures) (c.loop-number.invariant w u) in
    let all = subst (λ xs. IsAmong c.loop-number.found (first g xs)) (take_all i c.definitions-number-items.result.now c.loop-number-test.false ∙ c.definitions-number-items.ensures) before in
    let there = first_given (slice_get t.definitions) default c.args.symbol.now.definitions ∙ sym (first_there default (definitions_of t c.args.symbol.now)) in
    c.unwrap_or.ensures _ No (subst (IsAmong c.loop-number.found) there all) c.only.ensures
