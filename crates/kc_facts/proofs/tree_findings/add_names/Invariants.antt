use Rattle.std.proofs.Common.{◌≡◌, ◌++◌}
use Rattle.std.specs.List.{flat_map, range_with_len}
use Rattle.kc_facts.specs.TreeFindings.{name_found}
use Rattle.kc_facts.proofs.tree_findings.add_names.Given as goal

-- those so far
abbrev pub invariant-loop-number : goal.invariant-loop-number
invariant-loop-number l = l.found.items ≡ l.initial.found.items ++ flat_map (name_found l.names) (range_with_len 0 l.number)
