use Rattle.kc_tree.specs.AllFaults.{line_fault_at}
use Rattle.kc_tree.proofs.AllFaultLaws.{added_next}
use Rattle.kc_tree.proofs.every_fault.reported_lines.Goals as goal

pub loop-faulty-preserved : goal.loop-faulty-preserved
loop-faulty-preserved c =
    added_next (line_fault_at c.args.lines.now) _ _ c.args.places.now c.loop-faulty.faulty-index _ c.loop-faulty-test.true c.loop-faulty.invariant c.in_ok-add_line_fault.ensures
