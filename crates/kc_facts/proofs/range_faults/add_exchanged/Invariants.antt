use Rattle.std.proofs.Common.{◌≡◌, ◌++◌}
use Rattle.std.specs.List.{flat_map, range_with_len}
use Rattle.kc_facts.specs.ExchangedRanges.{exchanged_in}
use Rattle.kc_facts.proofs.range_faults.add_exchanged.Given as goal

-- the exchanged ranges so far
abbrev pub invariant-loop-place : goal.invariant-loop-place
invariant-loop-place l = l.found.items ≡ l.initial.found.items ++ flat_map (exchanged_in l.tree l.number l.definition) (range_with_len 0 l.place)
