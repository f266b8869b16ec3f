use Rattle.std.proofs.Common.{rules}
use Rattle.std.proofs.lemmas.List.Sorted.{IsNonDecreasingBy-from_sort_by_key}
use Rattle.kc_folder.proofs.read_paths.ends_in_order.Goals as goal

pub returns : goal.returns
returns c = record {
  read = c.in_ok-ends.ends.items;
  all = c.in_ok-ends.ensures;
  permuted = c.in_ok-sort_by_key.ensures.permutation;
  ordered = IsNonDecreasingBy-from_sort_by_key (λ e. e.0) _ c.in_ok-sort_by_key.ensures.sorted (λ a r q k. search rules);
}
