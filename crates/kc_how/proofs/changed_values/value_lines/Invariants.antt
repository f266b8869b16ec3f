use Rattle.std.proofs.Common.{◌≡◌}
use Rattle.std.specs.List.{flat_map, range_with_len}
use Rattle.kc_value.specs.Assignment.{assignment_of}
use Rattle.kc_how.specs.ChangedValues.{line_at}
use Rattle.kc_how.proofs.changed_values.value_lines.Given as goal

-- those so far
abbrev pub invariant-loop-number : goal.invariant-loop-number
invariant-loop-number l = l.lines.items ≡ flat_map (line_at (assignment_of l.tree l.values)) (range_with_len 0 l.number)
