use Rattle.kc_lines.specs.Named.{AreRemarksOf}
use Rattle.kc_lines.proofs.finding.part_remarks.Given as goal

-- the lines so far show the fault
abbrev pub invariant-loop-part : goal.invariant-loop-part
invariant-loop-part l = AreRemarksOf l.fault l.index l.remarks.items
