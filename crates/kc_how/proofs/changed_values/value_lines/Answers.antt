use Rattle.kc_value.specs.Assignment.{assignment_of}
use Rattle.kc_how.specs.ChangedValues.{line_at}
use Rattle.kc_how.proofs.ChangedLaws.{flat_map_next}
use Rattle.kc_how.proofs.changed_values.value_lines.Goals as goal

pub loop-number-preserved : goal.loop-number-preserved
loop-number-preserved c =
    flat_map_next (line_at (assignment_of c.args.tree.now c.args.values.now)) c.loop-number.number c.loop-number.lines.items c.add_value.new.lines.items
    c.loop-number.invariant c.in_ok-add_value.ensures
