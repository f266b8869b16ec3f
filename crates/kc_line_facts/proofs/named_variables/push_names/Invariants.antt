use Rattle.std.proofs.Common.{◌≡◌, ◌++◌, drop}
use Rattle.kc_text.specs.LineReferences.{lent_names}
use Rattle.kc_line_facts.specs.FileVariables.{uses_at}
use Rattle.kc_line_facts.proofs.named_variables.push_names.Given as goal

-- the names so far, and those that are left
abbrev pub invariant-loop-place : goal.invariant-loop-place
invariant-loop-place l =
    l.found.items ++ uses_at l.line (lent_names (drop l.place l.names)) ≡ l.initial.found.items ++ uses_at l.line (lent_names l.names)
