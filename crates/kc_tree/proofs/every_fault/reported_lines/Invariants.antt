use Rattle.std.proofs.Common.{◌≡◌, filter_map, take}
use Rattle.kc_tree.specs.AllFaults.{line_fault_at}
use Rattle.kc_tree.proofs.every_fault.reported_lines.Given as goal

-- the faults at the places so far
abbrev pub invariant-loop-faulty : goal.invariant-loop-faulty
invariant-loop-faulty l = l.faults.items ≡ filter_map (line_fault_at l.lines) (take l.faulty-index l.places)
