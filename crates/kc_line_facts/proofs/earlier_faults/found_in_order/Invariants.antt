use Rattle.std.proofs.Common.{◌≡◌}
use Rattle.std.specs.List.{filter_map, range_with_len}
use Rattle.kc_text.specs.LineReferences.{lent_names}
use Rattle.kc_line_facts.specs.EarlierFindings.{found_at}
use Rattle.kc_line_facts.proofs.earlier_faults.found_in_order.Given as goal

-- what is found at the marks so far
abbrev pub invariant-loop-number : goal.invariant-loop-number
invariant-loop-number l =
    l.found.items ≡ filter_map (found_at l.files (lent_names l.given) l.fn.repeated l.reached) (range_with_len 0 l.number)
