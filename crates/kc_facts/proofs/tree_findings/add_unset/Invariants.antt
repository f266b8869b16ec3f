use Rattle.std.proofs.Common.{◌≡◌, ◌++◌, drop}
use Rattle.std.specs.List.{flat_map}
use Rattle.kc_facts.specs.TreeFindings.{unset_found}
use Rattle.kc_facts.proofs.tree_findings.add_unset.Given as goal

-- with those that are left they are all
abbrev pub invariant-loop-one : goal.invariant-loop-one
invariant-loop-one l =
    l.found.items ++ flat_map (unset_found l.index) (drop l.one-index l.unset) ≡ l.initial.found.items ++ flat_map (unset_found l.index) l.unset
