use Rattle.std.proofs.Common.{List, ◌≡◌, rules, subst}
use Rattle.std.specs.List.Sorted.{IsPermutation, IsStableByKey}
use Rattle.std.specs.Ordering.{nat_cmp}
use Rattle.std.proofs.lemmas.Fn.{always_returns_same}
use Rattle.std.proofs.lemmas.List.Sorted.{IsNonDecreasingBy-from_sort_by_key}
use Rattle.kc_line_facts.specs.declared.read_order.Reached.{Reached}
use Rattle.kc_line_facts.proofs.read_order.reading_order.Goals as goal

pub returns : goal.returns
returns c =
    let sorted = c.sort_by_key.new.self.items in
    let marks_are = c.in_ok-reached.ensures in
    record {
      all = subst (λ (ms : List Reached). IsPermutation ms sorted) marks_are c.in_ok-sort_by_key.ensures.permutation;
      in_order = IsNonDecreasingBy-from_sort_by_key (λ m. m.before) _ c.in_ok-sort_by_key.ensures.sorted (λ a r q k. search rules);
      stable = subst (λ (ms : List Reached). IsStableByKey (λ (m : Reached). m.before) nat_cmp ms sorted) marks_are
          (c.in_ok-sort_by_key.ensures.stable (λ m. m.before) (always_returns_same _ (λ a r. r ≡ a.0.now.before) _ (λ a r q k. search rules)));
    }
