use Rattle.std.proofs.Common.{◌≡◌, ℕ, ◌<◌, ◌≤◌, length, slice_index, take, sum}
use Rattle.kc_graph.proofs.graph.users.sum_counts.Given as goal

-- the counts so far are sums, and the others are as they were
abbrev pub invariant-loop-count : goal.invariant-loop-count
invariant-loop-count l = record {
  size : length l.count-items ≡ length l.fn.counts.items;
  total : l.total ≡ sum (take l.count-index l.fn.counts.items);
  sums : (i : ℕ) → i < l.count-index → slice_index l.count-items i ≡ sum (take i l.fn.counts.items);
  kept : (i : ℕ) → l.count-index ≤ i → slice_index l.count-items i ≡ slice_index l.fn.counts.items i;
}
