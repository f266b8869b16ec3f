-- The names of the variables in the files of a Kconfig: this project's own, by docs/ERRORS.md, "Findings of `check`".
use Rattle.std.specs.Prelude.{ℕ, List, flat_map, map}
use Rattle.kc_line_facts.specs.declared.named_variables.NamedVariable.{NamedVariable}
use Rattle.kc_line_facts.specs.declared.read_order.VariableFile.{VariableFile}

abbrev pub names_of : List NamedVariable → List (List ℕ)
names_of variables = map (λ v. v.name) variables

-- those that the lines of the files define, file after file
abbrev pub defined_names : List VariableFile → List (List ℕ)
defined_names files = flat_map (λ f. names_of f.found.definitions.items) files

-- those to which the lines of the files refer
abbrev pub used_names : List VariableFile → List (List ℕ)
used_names files = flat_map (λ f. names_of f.found.uses.items) files
