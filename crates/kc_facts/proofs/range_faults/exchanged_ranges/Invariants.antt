use Rattle.std.proofs.Common.{◌≡◌}
use Rattle.std.specs.List.{flat_map, range_with_len}
use Rattle.kc_facts.specs.ExchangedRanges.{exchanged_by_number}
use Rattle.kc_facts.proofs.range_faults.exchanged_ranges.Given as goal

-- those of the definitions so far
abbrev pub invariant-loop-number : goal.invariant-loop-number
invariant-loop-number l = l.found.items ≡ flat_map (exchanged_by_number l.tree) (range_with_len 0 l.number)
