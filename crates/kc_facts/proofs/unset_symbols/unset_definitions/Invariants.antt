use Rattle.std.proofs.Common.{◌≡◌}
use Rattle.std.specs.List.{filter, range_with_len}
use Rattle.kc_facts.specs.Unset.{is_unset_at}
use Rattle.kc_facts.proofs.unset_symbols.unset_definitions.Given as goal

-- those of the definitions so far
abbrev pub invariant-loop-number : goal.invariant-loop-number
invariant-loop-number l = l.unset.items ≡ filter (is_unset_at l.tree) (range_with_len 0 l.number)
