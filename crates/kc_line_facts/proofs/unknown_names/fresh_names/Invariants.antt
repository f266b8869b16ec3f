use Rattle.std.proofs.Common.{◌≡◌}
use Rattle.std.specs.List.{filter, range_with_len}
use Rattle.kc_text.specs.LineReferences.{lent_names}
use Rattle.kc_line_facts.specs.FreshNames.{is_fresh}
use Rattle.kc_line_facts.proofs.unknown_names.fresh_names.Given as goal

-- the places so far
abbrev pub invariant-loop-place : goal.invariant-loop-place
invariant-loop-place l = l.fresh.items ≡ filter (is_fresh (lent_names l.fn.names) (lent_names l.fn.known)) (range_with_len 0 l.place)
