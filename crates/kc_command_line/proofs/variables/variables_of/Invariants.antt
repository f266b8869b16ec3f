use Rattle.std.proofs.Common.{◌≡◌, map}
use Rattle.std.specs.List.{filter_map}
use Rattle.kc_command_line.specs.Variables.{variable_of}
use Rattle.kc_command_line.proofs.variables.variables_of.Given as goal

abbrev pub invariant-loop-word : goal.invariant-loop-word
invariant-loop-word l = map (λ v. (v.0.now, v.1.now)) l.variables.items ≡ filter_map variable_of (map (λ word. word.now) l.yielded)
