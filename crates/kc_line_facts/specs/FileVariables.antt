-- The variables to which the lines of a Kconfig file refer, and those that they define: kconfig-macro-language.rst,
-- "Variables". Lines that are joined count as the first of them; a help text does neither.
use Rattle.std.specs.Prelude.{◌≡◌, ℕ, ◌+◌, Bool, false, ◌==◌, ◌||◌, ◌&&◌, List, [], ◌∷◌, ◌++◌, Some, None, codes, drop, if◌then◌else◌, map, nat_eq, option_map, option_to_list}
use Rattle.std.specs.List.{starts_with}
use Rattle.kc_text.specs.Bytes.{behind_blanks, is_blank}
use Rattle.kc_text.specs.Defining.{definition_of}
use Rattle.kc_text.specs.ItemLists.{ItemValue}
use Rattle.kc_text.specs.LeadingItem.{BeginsWith}
use Rattle.kc_text.specs.LineReferences.{AreReferences, value_references}
use Rattle.kc_line_facts.specs.declared.named_variables.NamedVariable.{NamedVariable}

abbrev pub named_in : ℕ → List ℕ → NamedVariable
named_in n name = record { line = n; name = name }

-- the variables to which lines that are taken together refer: a definition those in its value
abbrev pub AreUsedIn : ItemValue → List (List ℕ) → Type 0
AreUsedIn i names = elim (definition_of i.text) [ Some d ↦ names ≡ value_references d.value | None ↦ AreReferences i.text names ]

abbrev pub uses_at : ℕ → List (List ℕ) → List NamedVariable
uses_at n names = map (named_in n) names

-- the variable that they define, if they do
abbrev pub definitions_in : ℕ → ItemValue → List NamedVariable
definitions_in n i = option_to_list (option_map (λ d. named_in n d.name) (definition_of i.text))

-- a line whose first word is `source`, with a blank or a quote after it
abbrev pub ends_word : List ℕ → Bool
ends_word [] = false
ends_word (b ∷ bs) = is_blank b || (b == 34 || b == 39)

abbrev pub begins_source : List ℕ → Bool
begins_source bs = starts_with nat_eq bs (codes "source") && ends_word (drop 6 bs)

abbrev pub is_source : List ℕ → Bool
is_source bs = begins_source (behind_blanks bs)

abbrev pub sources_in : ℕ → ItemValue → List ℕ
sources_in n i = elim (definition_of i.text) [ Some d ↦ [] | None ↦ if is_source i.text then n ∷ [] else [] ]

-- lines after so many others of their file, with the uses of variables in them, their definitions, and the `source` lines
pub data HaveVariables : ℕ → List (List ℕ) → List NamedVariable → List NamedVariable → List ℕ → Type 0 where
  no_lines : {n : ℕ} → HaveVariables n [] [] [] []
  an_item : {n : ℕ} {lines after : List (List ℕ)} {i : ItemValue} (names : List (List ℕ)) {uses definitions : List NamedVariable} {sources : List ℕ}
      → BeginsWith lines i after → AreUsedIn i names → HaveVariables (n + (i.more + 1)) after uses definitions sources
      → HaveVariables n lines (uses_at (n + 1) names ++ uses) (definitions_in (n + 1) i ++ definitions) (sources_in (n + 1) i ++ sources)
