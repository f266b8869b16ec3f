-- `select` and `imply` lines that name a member of a choice, which passes them over: docs/VALUES.md, "Choices", and this
-- project's own.
use Rattle.std.specs.Prelude.{ℕ, Bool, false, ◌&&◌, ◌||◌, List, [], ◌∷◌, if◌then◌else◌, flat_map, is_some, length, slice_get}
use Rattle.std.specs.List.{range_with_len}
use Rattle.std.specs.Option.{option_map_or}
use Rattle.kc_text.specs.LineValue.{LineValue}
use Rattle.kc_text.specs.declared.line.Token.{Token}
use Rattle.kc_statement.specs.Names.{token_word}
use Rattle.kc_outline.specs.TreeValue.{TreeValue, choice_of, symbol_named}
use Rattle.kc_lines.specs.declared.parts.Attribute.TheVariants as attribute
use Rattle.kc_lines.specs.declared.parts.Family.TheVariants as family
use Rattle.kc_line_facts.specs.declared.member_selections.AttributePlace.{AttributePlace}
use Rattle.kc_lines.specs.Attributes.{says}
use Rattle.kc_lines.specs.LineIndex.{attributes_of, begins}

-- a word is the name of a member of a choice
abbrev pub is_member_name : TreeValue → List ℕ → Bool
is_member_name t w = option_map_or (λ s. is_some (choice_of t s)) (symbol_named t w) false

-- the second token is
abbrev pub names_member : TreeValue → List Token → Bool
names_member t (first ∷ second ∷ rest) = option_map_or (is_member_name t) (token_word second) false
names_member t _ = false

abbrev pub selects_member : TreeValue → LineValue → Bool
selects_member t line = (says attribute.Select line || says attribute.Imply line) && names_member t line.tokens

-- ---- these lines, in their order
abbrev pub place_if : ℕ → ℕ → Bool → List AttributePlace
place_if n p is = if is then record { definition = n; attribute = p } ∷ [] else []

-- the attribute line of a number of the definition of a number
abbrev pub selecting_in : TreeValue → ℕ → List LineValue → ℕ → List AttributePlace
selecting_in t n lines p = place_if n p (option_map_or (selects_member t) (slice_get lines p) false)

abbrev pub selecting_of : TreeValue → ℕ → List LineValue → List AttributePlace
selecting_of t n lines = flat_map (selecting_in t n lines) (range_with_len 0 (length lines))

-- those of the definition of a number
abbrev pub selecting_by_number : List LineValue → TreeValue → ℕ → List AttributePlace
selecting_by_number lines t n = selecting_of t n (attributes_of (begins family.Definition) lines n)

abbrev pub selected_members : List LineValue → TreeValue → List AttributePlace
selected_members lines t = flat_map (selecting_by_number lines t) (range_with_len 0 (length t.definitions))
