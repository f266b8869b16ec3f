use Rattle.std.proofs.Common.{◌≡◌, ◌∙◌, ◌++◌, ℕ, Bool, List, [], ◌∷◌, Some, None, false, if◌then◌else◌, ap, bytes_eq, get_or, slice_get, sym}
use Rattle.std.specs.Prelude.{option_map, option_to_list}
use denote.Ref.{Bor}
use Rattle.std.specs.BTreeMap.{get_by, is_at}
use Rattle.std.specs.Cmp.Lexicographic.{slice_cmp}
use Rattle.std.specs.Map.{lookup}
use Rattle.std.specs.Option.{option_map_or, option_or}
use Rattle.std.specs.Ordering.{nat_cmp}
use Rattle.std.proofs.lemmas.Option.{slice_get-get_or}
use Rattle.std.proofs.lemmas.Slice.Eq.{bytes_eq-Decides}
use Rattle.kc_line_facts.specs.DoubtfulNames.{is_named, name_of, named_at, named_by}
use Rattle.kc_line_facts.specs.Numbers.{first_below, last_below}
use Rattle.kc_line_facts.specs.declared.name_readings.NameReading.TheVariants as reading
use Rattle.kc_line_facts.specs.declared.named_uses.Passed.{Passed}
use Rattle.kc_line_facts.proofs.DoubtfulLaws.{first_below_more, first_passed, last_passed, named_by_passed}
use Rattle.kc_line_facts.proofs.NumberLaws.{last_more}
use Rattle.kc_line_facts.proofs.RangeLaws.{flat_map_next}
use Rattle.kc_line_facts.proofs.named_uses.named_uses.Goals as goal

pub loop-place-init : goal.loop-place-init
loop-place-init c = record {
  first_is = λ q. ap (λ (es : List (Bor (List ℕ) × Passed)). option_map (λ p. p.first) (lookup (is_at (λ k. slice_cmp nat_cmp q k.now)) es)) c.new-names.ensures.empty;
  last_is = λ q. ap (λ (es : List (Bor (List ℕ) × Passed)). option_map (λ p. p.last) (lookup (is_at (λ k. slice_cmp nat_cmp q k.now)) es)) c.new-names.ensures.empty;
  found_is = c.new-found.ensures.items;
}

pub loop-place-preserved : goal.loop-place-preserved
loop-place-preserved c =
    let lines = c.args.lines.now in
    let us = c.args.uses.now in
    let i = c.loop-place.place in
    let names = c.loop-place.names in
    let now = c.loop-place.found.items in
    let known = c.loop-place.invariant in
    let used = get_or us i (record { line = 0; owner = None; token = 0; reading = reading.No }) in
    let name = c.name_of.result.now in
    let own = get_by (λ k. slice_cmp nat_cmp name k.now) names in
    let is : slice_get us i ≡ Some used = slice_get-get_or us i (record { line = 0; owner = None; token = 0; reading = reading.No }) c.loop-place-test.true in
    let test : (q : List ℕ) → is_named lines us q i ≡ bytes_eq name q =
    λ q. ap (λ o. option_map_or (λ u. bytes_eq (name_of lines u) q) o false) is ∙ ap (λ w. bytes_eq w q) (sym c.name_of.ensures) in
    record {
      first_is = λ q.
          ap (option_map (λ p. p.first)) (c.in_ok-earlier.ensures.passed q)
          ∙ first_passed (bytes_eq name q) i own (get_by (λ k. slice_cmp nat_cmp q k.now) names) (first_below (is_named lines us q) i)
          (λ same. ap (λ w. get_by (λ k. slice_cmp nat_cmp w k.now) names) ((bytes_eq-Decides name q).0 same)) (known.first_is q)
          ∙ ap (λ (b : Bool). option_or (first_below (is_named lines us q) i) (if b then Some i else None)) (sym (test q))
          ∙ sym (first_below_more (is_named lines us q) i);
      last_is = λ q.
          ap (option_map (λ p. p.last)) (c.in_ok-earlier.ensures.passed q)
          ∙ last_passed (bytes_eq name q) i own (get_by (λ k. slice_cmp nat_cmp q k.now) names) (last_below (is_named lines us q) i) (known.last_is q)
          ∙ ap (λ (b : Bool). if b then Some i else last_below (is_named lines us q) i) (sym (test q))
          ∙ sym (last_more (is_named lines us q) i);
      found_is =
          let e = c.in_ok-earlier.earlier in
          let first = ap (option_map (λ p. p.first)) c.in_ok-earlier.ensures.earlier ∙ known.first_is name ∙ ap (λ w. first_below (is_named lines us w) i) c.name_of.ensures in
          let last = ap (option_map (λ p. p.last)) c.in_ok-earlier.ensures.earlier ∙ known.last_is name ∙ ap (λ w. last_below (is_named lines us w) i) c.name_of.ensures in
          flat_map_next (named_at lines us) i now _ known.found_is
          (c.in_ok-push.ensures.items
          ∙ ap (λ n. now ++ n ∷ []) (named_by_passed lines us i used e c.named.result first last c.named.ensures)
          ∙ ap (λ o. now ++ option_to_list (option_map (named_by lines us i) o)) (sym is));
    }
