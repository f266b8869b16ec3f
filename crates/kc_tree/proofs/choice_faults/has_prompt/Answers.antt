use Rattle.std.proofs.Common.{◌≡◌, ℕ, List, false, true, is_some, length, slice_get, take, sym, ap, subst, ◌∙◌, arith}
use Rattle.std.specs.List.{list_any}
use Rattle.std.specs.Option.{option_map_or}
use Rattle.std.proofs.Math.Seq.{take-length}
use Rattle.std.proofs.lemmas.List.Folds.{list_any_at}
use Rattle.kc_outline.specs.TreeValue.{DefinitionValue, prompt_of}
use Rattle.kc_tree.proofs.RowLaws.{any_filtered}
use Rattle.kc_tree.proofs.choice_faults.has_prompt.Goals as goal

pub returns-then-is_prompted : goal.returns-then-is_prompted
returns-then-is_prompted c =
    let ds = c.args.outline.now.definitions in
    let js = c.definitions-definition-items.result.now in
    let here = list_any_at (λ (j : ℕ). option_map_or (λ (d : DefinitionValue). is_some (prompt_of d)) (slice_get ds j) false) js c.loop-definition.definition-index 0 c.loop-definition-test.true (sym c.is_prompted.ensures ∙ c.if-is_prompted.true) in
    sym (any_filtered (λ (d : DefinitionValue). is_some (prompt_of d)) (slice_get ds) c.args.symbol.now.definitions ∙ subst (λ (xs : List ℕ). list_any (λ j. option_map_or (λ (d : DefinitionValue). is_some (prompt_of d)) (slice_get ds j) false) xs ≡ true) c.definitions-definition-items.ensures here)

pub returns : goal.returns
returns c =
    let ds = c.args.outline.now.definitions in
    let js = c.definitions-definition-items.result.now in
    let all : c.loop-definition.definition-index ≡ length js = omega arith in
    let test = λ (j : ℕ). option_map_or (λ (d : DefinitionValue). is_some (prompt_of d)) (slice_get ds j) false in
    let none : list_any test js ≡ false = ap (list_any test) (sym (ap (λ (i : ℕ). take i js) all ∙ take-length js)) ∙ c.loop-definition.invariant in
    sym (any_filtered (λ (d : DefinitionValue). is_some (prompt_of d)) (slice_get ds) c.args.symbol.now.definitions ∙ subst (λ (xs : List ℕ). list_any test xs ≡ false) c.definitions-definition-items.ensures none)
