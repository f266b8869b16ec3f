use Rattle.std.proofs.Common.{◌≡◌, ◌++◌, drop}
use Rattle.kc_text.specs.LineReferences.{lent_names}
use Rattle.kc_line_facts.specs.VariableNames.{defined_names}
use Rattle.kc_line_facts.proofs.variable_names.defined_names.Given as goal

-- with those that are left they are all
abbrev pub invariant-loop-file : goal.invariant-loop-file
invariant-loop-file l = lent_names l.names.items ++ defined_names (drop l.file-index l.files) ≡ defined_names l.files
