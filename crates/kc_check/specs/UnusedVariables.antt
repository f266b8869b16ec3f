-- Variables that are used nowhere: this project's own, by docs/ERRORS.md, "Findings of `check`".
use Rattle.std.specs.Prelude.{ℕ, List, Option, None, Some, filter_map, flat_map, map, option_map, option_to_list, slice_get, []}
use denote.Ref.{Bor}
use Rattle.kc_line_facts.specs.declared.named_variables.NamedVariable.{NamedVariable}
use Rattle.kc_line_facts.specs.declared.read_order.VariableFile.{VariableFile}
use Rattle.kc_line_facts.specs.FreshNames.{fresh_places}
use Rattle.kc_line_facts.specs.VariableNames.{defined_names, used_names}
use Rattle.kc_check.specs.declared.finding.Finding.{Finding}
use Rattle.kc_check.specs.declared.finding.FoundAt.{FoundAt}
use Rattle.kc_check.specs.declared.variables.Definition.{Definition}

-- where a finding is, and the name that it is about
pub record About : Type 0 where
  pub at : Option FoundAt
  pub name : List ℕ

abbrev pub about : Finding → About
about f = record { at = f.at; name = f.name }

-- ---- variables that are given
abbrev pub about_name : List ℕ → About
about_name name = record { at = None; name = name }

abbrev pub about_given : List (List ℕ) → ℕ → Option About
about_given given k = option_map about_name (slice_get given k)

-- the names that were given and no line of the files uses, each once
abbrev pub unused_given : List VariableFile → List (List ℕ) → List About
unused_given files given = filter_map (about_given given) (fresh_places given (used_names files))

-- ---- variables that the files define
abbrev pub about_variable : List ℕ → NamedVariable → About
about_variable path v = record { at = Some (record { path = path; line = v.line }); name = v.name }

-- the definitions of the files, file after file
abbrev pub about_definitions : List VariableFile → List About
about_definitions files = flat_map (λ f. map (about_variable f.path.now) f.found.definitions.items) files

-- the variables that lines define and no line uses, each where it is defined first
abbrev pub unused_definitions : List VariableFile → List About
unused_definitions files = filter_map (slice_get (about_definitions files)) (fresh_places (defined_names files) (used_names files))

-- ---- a Kconfig that defines no symbol
abbrev pub without_name : About → About
without_name a = record { at = a.at; name = [] }

-- the first definition, without its name
abbrev pub about_exchanged : List VariableFile → List About
about_exchanged files = option_to_list (option_map without_name (slice_get (about_definitions files) 0))

-- ---- names and definitions that are lent
abbrev pub about_lent : Bor (List ℕ) → About
about_lent name = about_name name.now

abbrev pub about_definition : Definition → About
about_definition d = about_variable d.path.now d.variable.now

abbrev pub about_nameless : Definition → About
about_nameless d = without_name (about_definition d)
