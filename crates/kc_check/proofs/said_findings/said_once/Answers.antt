use Rattle.std.proofs.Common.{◌≡◌, ◌∙◌, ◌++◌, ◌∷◌, ◌<◌, ◌+◌, [], List, Bool, Some, false, if◌then◌else◌, ap, append-nil, append_assoc, arith, get_or, length, length-append, map, refl, slice_get, sym}
use Rattle.std.specs.List.{filter, filter_map, range_with_len}
use Rattle.std.specs.Vec.Iter.{into_iter_items}
use Rattle.std.proofs.lemmas.List.{length-map}
use Rattle.kc_line_facts.specs.FreshNames.{is_fresh}
use Rattle.kc_check.specs.ReportLines.{line_text}
use Rattle.kc_check.proofs.SaidLaws.{flag_at, said_more, seam}
use Rattle.kc_check.proofs.said_findings.said_once.Goals as goal

nothing_left : {X : Type 0} (l : List X) → length l ≡ 0 → l ≡ []
nothing_left [] h = refl
nothing_left (x ∷ xs) h = absurd (omega arith)

pub loop-finding-preserved : goal.loop-finding-preserved
loop-finding-preserved c =
    let at = c.loop-finding in
    let known = at.invariant in
    let x = c.in-Some.finding in
    let all = c.args.findings.items in
    let rest = into_iter_items c.next.new.self in
    let test = is_fresh (map line_text all) [] in
    let steps : into_iter_items at.finding-iterator ≡ x ∷ rest = c.in-Some.ensures.steps.0 in
    let short = ap length steps in
    let whole : at.yielded ++ x ∷ rest ≡ all = ap (λ r. at.yielded ++ r) (sym steps) ∙ known.whole in
    let there : slice_get all at.place ≡ Some x = ap (λ xs. slice_get xs at.place) (sym whole) ∙ ap (slice_get (at.yielded ++ x ∷ rest)) known.counted ∙ seam at.yielded x rest in
    let within : at.place < length all = omega (arith, known.few, short) in
    record {
      whole = append_assoc at.yielded (x ∷ []) rest ∙ whole;
      counted = omega (arith, known.counted, length-append at.yielded (x ∷ []));
      few = omega (arith, known.few, short);
      left = let was = known.left in let gone = c.in-Some.ensures.steps.1 in omega (arith, was, gone, short);
      once_is = said_more test all at.place x at.once.items _ there known.once_is
          (c.in_ok-push_if.ensures ∙ ap (λ (b : Bool). at.once.items ++ (if b then x ∷ [] else []))
          (c.is_set-is_new.ensures ∙ ap (λ bs. get_or bs at.place false) c.as_slice-in-loop-finding.ensures.value
          ∙ flag_at all c.as_slice.result.now c.in_ok-flags.flags.items at.place c.as_slice.ensures.value c.in_ok-flags.ensures within));
    }

pub returns : goal.returns
returns c =
    let at = c.loop-finding in
    let known = at.invariant in
    let all = c.args.findings.items in
    let none = c.in-None.ensures.steps in
    let empty : into_iter_items at.finding-iterator ≡ [] = nothing_left _ (sym known.left ∙ none.0) in
    let gone = ap length empty in
    let place_is : at.place ≡ length (map line_text all) = omega (arith, known.few, gone, length-map all line_text) in
    known.once_is ∙ ap (λ n. filter_map (slice_get all) (filter (is_fresh (map line_text all) []) (range_with_len 0 n))) place_is
