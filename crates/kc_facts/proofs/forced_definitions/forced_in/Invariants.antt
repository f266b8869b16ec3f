use Rattle.std.proofs.Common.{◌≡◌}
use Rattle.std.specs.List.{filter_map, range_with_len}
use Rattle.kc_value.specs.Known.{given}
use Rattle.kc_facts.specs.Forced.{forced_at}
use Rattle.kc_facts.proofs.forced_definitions.forced_in.Given as goal

-- what is said at the definitions so far
abbrev pub invariant-loop-number : goal.invariant-loop-number
invariant-loop-number l = l.found.items ≡ filter_map (forced_at l.known.tree (given l.known)) (range_with_len 0 l.number)
