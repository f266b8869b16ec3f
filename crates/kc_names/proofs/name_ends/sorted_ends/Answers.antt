use Rattle.std.proofs.Common.{rules}
use Rattle.std.proofs.lemmas.List.Sorted.{Contains-permutation, IsNonDecreasingBy-from_sort_by_key}
use Rattle.kc_names.proofs.name_ends.sorted_ends.Goals as goal

pub returns : goal.returns
returns c = record {
  ends = λ j b is short before rest split.
      Contains-permutation _ _ _ c.sort_unstable_by_key.ensures.permutation (c.in_ok-kept.ensures j b is short before rest split);
  rise = IsNonDecreasingBy-from_sort_by_key (λ k. k.hash) _ c.sort_unstable_by_key.ensures.sorted (λ a r q k. search rules);
}
