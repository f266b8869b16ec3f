use Rattle.std.proofs.Common.{◌++◌, ◌+◌, ◌≤◌, ℕ, List, length}
use denote.Text.{Utf8}
use denote.Shadow.{shadow}
use Rattle.std.specs.Str.Lines.{lines}
use Rattle.kc_line_facts.specs.FileVariables.{HaveVariables}
use Rattle.kc_line_facts.specs.declared.named_variables.NamedVariable.{NamedVariable}
use Rattle.kc_line_facts.proofs.named_variables.file_variables.Given as goal

-- what is found so far is before what the rest has
abbrev pub invariant-loop-found : goal.invariant-loop-found
invariant-loop-found l = record {
  utf8 : shadow (Utf8 l.rest);
  within : l.before + length l.rest ≤ length l.text;
  have : (uses definitions : List NamedVariable) (sources : List ℕ) → HaveVariables l.before (lines l.rest) uses definitions sources
      → HaveVariables 0 (lines l.text) (l.found.uses.items ++ uses) (l.found.definitions.items ++ definitions) (l.found.sources.items ++ sources);
}

abbrev pub decreases-loop-found : goal.decreases-loop-found
decreases-loop-found l = length l.rest
