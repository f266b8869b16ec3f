use Rattle.std.proofs.Common.{◌≡◌, ◌++◌, drop}
use Rattle.kc_facts.specs.TreeFindings.{found_in}
use Rattle.kc_facts.proofs.tree_findings.add_in.Given as goal

-- with those that are left they are all
abbrev pub invariant-loop-one : goal.invariant-loop-one
invariant-loop-one l = l.found.items ++ found_in (drop l.one-index l.lines) l.finding ≡ l.initial.found.items ++ found_in l.lines l.finding
