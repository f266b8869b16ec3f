use Rattle.std.proofs.Common.{◌≡◌, ℕ, List, false, true, length, slice_get, take, sym, ap, subst, ◌∙◌, arith}
use Rattle.std.specs.List.{list_any}
use Rattle.std.specs.Option.{option_map_or}
use Rattle.std.proofs.Math.Seq.{take-length}
use Rattle.std.proofs.lemmas.List.Folds.{list_any_at}
use Rattle.kc_statement.specs.declared.symbol_type.SymbolType.{SymbolType}
use Rattle.kc_tree.specs.SymbolFaults.{has_unfit}
use Rattle.kc_outline.specs.TreeValue.{definitions_of}
use Rattle.kc_tree.proofs.RowLaws.{any_filtered}
use Rattle.kc_tree.proofs.symbol_faults.has_unfit_default.Goals as goal

pub returns-then-has_unfit : goal.returns-then-has_unfit
returns-then-has_unfit c =
    let ds = c.args.outline.now.definitions in
    let js = c.definitions-definition-items.result.now in
    let kind = c.kind-kind.result in
    let test = λ (j : ℕ). option_map_or (has_unfit kind) (slice_get ds j) false in
    let here = list_any_at test js c.loop-definition.definition-index 0 c.loop-definition-test.true (sym c.has_unfit.ensures ∙ c.if-has_unfit.true) in
    let any = any_filtered (has_unfit kind) (slice_get ds) c.args.symbol.now.definitions ∙ subst (λ (xs : List ℕ). list_any test xs ≡ true) c.definitions-definition-items.ensures here in
    sym (ap (λ (k : SymbolType). list_any (has_unfit k) (definitions_of c.args.outline.now c.args.symbol.now)) (sym c.kind-kind.ensures) ∙ any)

pub returns : goal.returns
returns c =
    let ds = c.args.outline.now.definitions in
    let js = c.definitions-definition-items.result.now in
    let kind = c.kind-kind.result in
    let all : c.loop-definition.definition-index ≡ length js = omega arith in
    let test = λ (j : ℕ). option_map_or (has_unfit kind) (slice_get ds j) false in
    let none : list_any test js ≡ false = ap (list_any test) (sym (ap (λ (i : ℕ). take i js) all ∙ take-length js)) ∙ c.loop-definition.invariant in
    let any = any_filtered (has_unfit kind) (slice_get ds) c.args.symbol.now.definitions ∙ subst (λ (xs : List ℕ). list_any test xs ≡ false) c.definitions-definition-items.ensures none in
    sym (ap (λ (k : SymbolType). list_any (has_unfit k) (definitions_of c.args.outline.now c.args.symbol.now)) (sym c.kind-kind.ensures) ∙ any)
