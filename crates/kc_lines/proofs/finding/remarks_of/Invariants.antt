use Rattle.kc_lines.specs.Named.{AreRemarksOf}
use Rattle.kc_lines.proofs.finding.remarks_of.Given as goal

-- the lines so far show the fault
abbrev pub invariant-loop-mention : goal.invariant-loop-mention
invariant-loop-mention l = AreRemarksOf l.fault l.lines l.remarks.items
