use Rattle.std.proofs.Common.{◌≡◌, ◌++◌, drop}
use Rattle.kc_text.specs.LineReferences.{lent_names}
use Rattle.kc_line_facts.specs.VariableNames.{names_of}
use Rattle.kc_line_facts.proofs.variable_names.push_names.Given as goal

-- with those that are left they are all
abbrev pub invariant-loop-variable : goal.invariant-loop-variable
invariant-loop-variable l =
    lent_names l.names.items ++ names_of (drop l.variable-index l.variables) ≡ lent_names l.initial.names.items ++ names_of l.variables
