use Rattle.std.proofs.Common.{◌≡◌, ◌++◌}
use Rattle.std.specs.List.{flat_map, range_with_len}
use Rattle.kc_line_facts.specs.UnusedDefaults.{counts_before, free_place, unused_at}
use Rattle.kc_line_facts.proofs.defaults_after.add_after.Given as goal

-- those at the places so far
abbrev pub invariant-loop-place : goal.invariant-loop-place
invariant-loop-place l =
    l.found.items ≡ l.initial.found.items
    ++ flat_map (λ p. unused_at l.number p (counts_before l.earlier (free_place l.number l.definition) p)) (range_with_len 0 l.place)
