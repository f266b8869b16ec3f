use Rattle.std.proofs.Common.{◌≡◌, ◌++◌, drop, map}
use Rattle.kc_check.specs.UnusedVariables.{about_definition, about_variable}
use Rattle.kc_check.proofs.variables.push_definitions.Given as goal

-- with those that are left they are all
abbrev pub invariant-loop-variable : goal.invariant-loop-variable
invariant-loop-variable l =
    map about_definition l.definitions.items ++ map (about_variable l.path) (drop l.variable-index l.variables)
    ≡ map about_definition l.initial.definitions.items ++ map (about_variable l.path) l.variables
