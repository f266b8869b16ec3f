use Rattle.std.proofs.Common.{◌≡◌, ◌∙◌, ◌<◌, ◌+◌, ℕ, List, Option, None, ap, sym, subst, arith}
use Rattle.std.specs.Prelude.{slice_index_or}
use Rattle.std.specs.List.{remove}
use Rattle.kc_files.specs.declared.assign.Assign.{Assign}
use Rattle.kc_how.specs.Question.{Asked, IsLacking}
use Rattle.kc_how.proofs.NeededLaws.{needed_more, whole_more}
use Rattle.kc_how.proofs.needed.needed_by.Goals as goal

pub loop-index-preserved : goal.loop-index-preserved
loop-index-preserved c =
    let q = c.args.question.now.asked in
    let lines = c.args.lines.now in
    let i = c.loop-index.index in
    let found = c.loop-index.found.items in
    let one = c.in_ok-lacking.lacking in
    let left : c.remove.new.self.items ≡ remove lines i = c.remove.ensures.items ∙ ap (λ (ls : List Assign). remove ls i) c.in_ok-others.ensures in
    let here : IsLacking q (remove lines i) one =
    subst (λ (p : Asked × List Assign). IsLacking p.0 p.1 one) (λ j. (c.loop-index.invariant.asked j, left j)) c.in_ok-lacking.ensures.lacking in
    record {
      asked = c.lacking.ensures.asked ∙ c.loop-index.invariant.asked;
      whole = whole_more found one i c.push.new.self.items c.in_ok-push.ensures.items c.loop-index.invariant.whole;
      each = subst (λ (xs : List (Option ℕ)). (k : ℕ) → k < i + 1 → IsLacking q (remove lines k) (slice_index_or xs k None))
          (sym c.in_ok-push.ensures.items) (needed_more q lines found i one c.loop-index.invariant.whole c.loop-index.invariant.each here);
    }

pub returns : goal.returns
returns c = record {
  whole = omega (arith, c.loop-index.invariant.whole, c.loop-index.auto.index-end);
  each = λ k less. c.loop-index.invariant.each k (omega arith);
}
