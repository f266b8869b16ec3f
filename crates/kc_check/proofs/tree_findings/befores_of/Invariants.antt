use Rattle.std.proofs.Common.{◌≡◌, ◌++◌, drop}
use Rattle.kc_check.specs.TreeReport.{befores}
use Rattle.kc_check.proofs.tree_findings.befores_of.Given as goal

-- with those that are left they are all
abbrev pub invariant-loop-one : goal.invariant-loop-one
invariant-loop-one l = l.befores.items ++ befores (drop l.one-index l.earlier) ≡ befores l.earlier
