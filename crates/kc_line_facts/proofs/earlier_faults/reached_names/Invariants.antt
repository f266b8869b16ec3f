use Rattle.std.proofs.Common.{◌≡◌, ◌++◌, drop}
use Rattle.kc_text.specs.LineReferences.{lent_names}
use Rattle.kc_line_facts.specs.EarlierFindings.{reached_names}
use Rattle.kc_line_facts.proofs.earlier_faults.reached_names.Given as goal

-- with those that are left they are all
abbrev pub invariant-loop-one : goal.invariant-loop-one
invariant-loop-one l = lent_names l.names.items ++ reached_names l.files (drop l.one-index l.reached) ≡ reached_names l.files l.reached
