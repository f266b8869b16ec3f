use Rattle.std.proofs.Common.{◌≡◌, ◌++◌, drop}
use Rattle.std.specs.List.{flat_map}
use Rattle.kc_facts.specs.TreeFindings.{hidden_found}
use Rattle.kc_facts.proofs.tree_findings.add_hidden.Given as goal

-- with those that are left they are all
abbrev pub invariant-loop-one : goal.invariant-loop-one
invariant-loop-one l =
    l.found.items ++ flat_map (hidden_found l.index) (drop l.one-index l.hidden) ≡ l.initial.found.items ++ flat_map (hidden_found l.index) l.hidden
