use Rattle.std.proofs.Common.{◌≡◌, ◌++◌, drop, map}
use Rattle.kc_check.specs.UnusedVariables.{about_definition, about_definitions}
use Rattle.kc_check.proofs.variables.definitions_in.Given as goal

-- with those that are left they are all
abbrev pub invariant-loop-file : goal.invariant-loop-file
invariant-loop-file l = map about_definition l.definitions.items ++ about_definitions (drop l.file-index l.files) ≡ about_definitions l.files
