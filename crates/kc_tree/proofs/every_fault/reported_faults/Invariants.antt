use Rattle.std.proofs.Common.{◌≡◌, Some, filter, map, take}
use Rattle.kc_statement.specs.Keywords.{is_choice}
use Rattle.kc_tree.specs.AllFaults.{reported}
use Rattle.kc_tree.proofs.every_fault.reported_faults.Given as goal

-- the faults so far are reported
abbrev pub invariant-loop-fault : goal.invariant-loop-fault
invariant-loop-fault l = map Some l.faults.items ≡ map (reported (filter is_choice l.lines) l.outline) (take l.fault-index l.found)
