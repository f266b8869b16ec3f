use Rattle.std.proofs.Common.{◌≡◌, ◌++◌, drop}
use Rattle.std.specs.List.{flat_map}
use Rattle.kc_files.specs.ConfigFindings.{fact_found}
use Rattle.kc_files.proofs.config_findings.add_facts.Given as goal

-- with those that are left they are all
abbrev pub invariant-loop-one : goal.invariant-loop-one
invariant-loop-one l = l.found.items ++ flat_map (fact_found l.said) (drop l.one-index l.facts) ≡ l.initial.found.items ++ flat_map (fact_found l.said) l.facts
