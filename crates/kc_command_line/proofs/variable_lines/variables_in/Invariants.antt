use Rattle.std.proofs.Common.{◌≡◌, map}
use Rattle.std.specs.List.{filter_map}
use Rattle.kc_command_line.specs.VariableLines.{line_variable}
use Rattle.kc_command_line.proofs.variable_lines.variables_in.Given as goal

abbrev pub invariant-loop-line : goal.invariant-loop-line
invariant-loop-line l = map (λ v. (v.0.now, v.1.now)) l.variables.items ≡ filter_map line_variable (map (λ line. line.now) l.yielded)
