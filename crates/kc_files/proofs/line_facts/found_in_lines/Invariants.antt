use Rattle.std.proofs.Common.{◌≡◌}
use Rattle.std.specs.List.{flat_map, range_with_len}
use Rattle.kc_files.specs.LineFacts.{found_at}
use Rattle.kc_files.proofs.line_facts.found_in_lines.Given as goal

-- what is found in the lines so far
abbrev pub invariant-loop-line : goal.invariant-loop-line
invariant-loop-line l = l.found.items ≡ flat_map (found_at l.lines l.outcomes) (range_with_len 0 l.line)
