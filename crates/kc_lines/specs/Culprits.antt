-- Which parts make a fault of a symbol or of a choice: this project's own. What is at fault is said by the tests that
-- find the fault; of several such parts it is the first.
use Rattle.std.specs.Prelude.{ℕ, Bool, false, not, ◌++◌, List, [], ◌∷◌, Option, if◌then◌else◌, option_map, option_and_then, option_to_list, codes, count_by, flat_map, map, position, slice_get, take}
use Rattle.std.specs.List.{range_with_len}
use Rattle.std.specs.Option.{option_map_or, option_or}
use Rattle.std.specs.Str.{bytes_eq}
use Rattle.kc_text.specs.LineValue.{LineValue}
use Rattle.kc_statement.specs.declared.id.SymId.{SymId}
use Rattle.kc_statement.specs.declared.symbol_type.SymbolType.{SymbolType}
use Rattle.kc_outline.specs.declared.id.ChoiceId.{ChoiceId}
use Rattle.kc_outline.specs.declared.symbol.Reverse.{Reverse}
use Rattle.kc_outline.specs.TreeValue.{TreeValue, SymbolValue, DefinitionValue, ChoiceValue, kind_of, name_of, same_type}
use Rattle.kc_tree.specs.declared.problem.SymbolProblem.{SymbolProblem}
use Rattle.kc_tree.specs.declared.problem.SymbolProblem.TheVariants as problem
use Rattle.kc_tree.specs.declared.problem.ChoiceProblem.{ChoiceProblem}
use Rattle.kc_tree.specs.declared.problem.ChoiceProblem.TheVariants as choice_problem
use Rattle.kc_tree.specs.SymbolFaults.{has_unfit, is_prompted_again, is_unfit_default, is_unfit_range}
use Rattle.kc_tree.specs.ChoiceFaults.{is_defined_again, is_member, is_of_other_type, lacks_prompt, symbol_has}
use Rattle.kc_lines.specs.declared.parts.Attribute.{Attribute}
use Rattle.kc_lines.specs.declared.parts.Attribute.TheVariants as attribute
use Rattle.kc_lines.specs.declared.parts.Family.TheVariants as family
use Rattle.kc_lines.specs.declared.parts.Part.{Part}
use Rattle.kc_lines.specs.declared.parts.Part.TheVariants.{Owner, Said}
use Rattle.kc_lines.specs.Attributes.{says}
use Rattle.kc_lines.specs.LineIndex.{attributes_of, begins}

-- ---- parts
-- the first that passes a test
abbrev pub first_with : {X : Type 0} → (X → Bool) → List X → Option X
first_with test xs = option_and_then (slice_get xs) (position test xs)

-- how many lines of a definition say an attribute
abbrev pub times_in : List LineValue → Attribute → ℕ → ℕ
times_in lines a j = count_by (says a) (attributes_of (begins family.Definition) lines j)

-- the parts that say it, in the order of their lines
abbrev pub parts_in : List LineValue → Attribute → ℕ → List Part
parts_in lines a j = map (Said family.Definition j a) (range_with_len 0 (times_in lines a j))

-- and of all definitions of a symbol
abbrev pub parts_of : List LineValue → Attribute → SymbolValue → List Part
parts_of lines a x = flat_map (parts_in lines a) x.definitions

abbrev pub first_part : List LineValue → Attribute → SymbolValue → Option Part
first_part lines a x = slice_get (parts_of lines a x) 0

-- the first definitions of a symbol, of some number at most
abbrev pub first_definitions : ℕ → SymbolValue → List Part
first_definitions most x = map (Owner family.Definition) (take most x.definitions)

-- a list of two parts, if there are both
abbrev pub pair : Option Part → Option Part → List Part
pair first second = option_to_list first ++ option_to_list second

-- ---- symbols
-- the first type that is another than the first of all
abbrev pub other_type : List LineValue → SymbolValue → Option Part
other_type lines x =
    option_and_then (slice_get (parts_of lines attribute.Type x)) (position (λ k. not (same_type (kind_of x) k)) x.types)

-- the first two prompts of a definition
abbrev pub two_prompts : ℕ → List Part
two_prompts j = Said family.Definition j attribute.Prompt 0 ∷ Said family.Definition j attribute.Prompt 1 ∷ []

abbrev pub is_prompted_again_at : TreeValue → ℕ → Bool
is_prompted_again_at t j = option_map_or is_prompted_again (slice_get t.definitions j) false

-- of the first definition that has two
abbrev pub second_prompt : TreeValue → SymbolValue → List Part
second_prompt t x = option_map_or two_prompts (first_with (is_prompted_again_at t) x.definitions) []

-- the first default of a definition that does not fit a type, else its first range
abbrev pub unfit_of : SymbolType → ℕ → DefinitionValue → Option Part
unfit_of k j d =
    option_or (option_map (Said family.Definition j attribute.Default) (position (is_unfit_default k) d.defaults))
    (option_map (Said family.Definition j attribute.Range) (position (is_unfit_range k) d.ranges))

abbrev pub has_unfit_at : TreeValue → SymbolType → ℕ → Bool
has_unfit_at t k j = option_map_or (has_unfit k) (slice_get t.definitions j) false

abbrev pub unfit_at : TreeValue → SymbolType → ℕ → Option Part
unfit_at t k j = option_and_then (unfit_of k j) (slice_get t.definitions j)

-- of the first definition of the symbol that has one
abbrev pub unfit_value : TreeValue → SymbolValue → Option Part
unfit_value t x = option_and_then (unfit_at t (kind_of x)) (first_with (has_unfit_at t (kind_of x)) x.definitions)

-- the line of a `select` or an `imply` of a symbol, in the definition that has it
abbrev pub reverse_part : Attribute → Reverse → Part
reverse_part a r = Said family.Definition r.definition a r.number

-- the first `select` line of the symbol, else its first `imply` line, else the first `select` line that names it, else
-- the first `imply` line
abbrev pub selection : List LineValue → SymbolValue → Option Part
selection lines x =
    option_or (first_part lines attribute.Select x)
    (option_or (first_part lines attribute.Imply x)
    (option_or (option_map (reverse_part attribute.Select) (slice_get x.selected 0))
    (option_map (reverse_part attribute.Imply) (slice_get x.implied 0))))

-- MODULES has a bad type, and another symbol a `modules` line that it may not have
abbrev pub modules_attribute : TreeValue → SymId → Attribute
modules_attribute t s = if bytes_eq (name_of t s) (codes "MODULES") then attribute.Type else attribute.Modules

-- by the problem; after a value or a selection that does not fit comes the first type, which it should fit
abbrev pub culprits_of : List LineValue → TreeValue → SymbolProblem → SymId → SymbolValue → List Part
culprits_of lines t problem.NoType s x = map (Owner family.Definition) x.definitions
culprits_of lines t problem.TypeConflict s x = pair (first_part lines attribute.Type x) (other_type lines x)
culprits_of lines t problem.SecondPrompt s x = second_prompt t x
culprits_of lines t problem.UnfitDefault s x = pair (unfit_value t x) (first_part lines attribute.Type x)
culprits_of lines t problem.UnfitSelect s x = pair (selection lines x) (first_part lines attribute.Type x)
culprits_of lines t problem.BadModules s x = option_to_list (first_part lines (modules_attribute t s) x)

abbrev pub symbol_culprits : List LineValue → TreeValue → SymbolProblem → SymId → List Part
symbol_culprits lines t p s = option_map_or (culprits_of lines t p s) (slice_get t.symbols s.0) []

-- ---- choices
-- the first default that is no member
abbrev pub foreign_default : TreeValue → ChoiceId → ChoiceValue → Option Part
foreign_default t c y = option_map (Said family.Choice c.0 attribute.Default) (position (λ d. not (is_member t c d.symbol)) y.defaults)

-- a member has a problem that only members have
abbrev pub has_problem : TreeValue → ChoiceProblem → SymId → Bool
has_problem t choice_problem.MemberType s = symbol_has t is_of_other_type s
has_problem t choice_problem.MemberWithoutPrompt s = symbol_has t lacks_prompt s
has_problem t choice_problem.MemberDefinedAgain s = symbol_has t is_defined_again s
has_problem t _ s = false

-- the first member with it
abbrev pub faulty_member : TreeValue → ChoiceProblem → ChoiceValue → Option SymbolValue
faulty_member t p y = option_and_then (λ s. slice_get t.symbols s.0) (first_with (has_problem t p) y.members)

-- by the problem: of a member its first type, its first definition, or its first two definitions
abbrev pub member_culprits : List LineValue → ChoiceProblem → SymbolValue → List Part
member_culprits lines choice_problem.MemberType x = option_to_list (first_part lines attribute.Type x)
member_culprits lines choice_problem.MemberWithoutPrompt x = first_definitions 1 x
member_culprits lines choice_problem.MemberDefinedAgain x = first_definitions 2 x
member_culprits lines _ x = []

abbrev pub culprits_in : List LineValue → TreeValue → ChoiceProblem → ChoiceId → ChoiceValue → List Part
culprits_in lines t choice_problem.NoPrompt c y = Owner family.Choice c.0 ∷ []
culprits_in lines t choice_problem.SecondPrompt c y =
    Said family.Choice c.0 attribute.Prompt 0 ∷ Said family.Choice c.0 attribute.Prompt 1 ∷ []
culprits_in lines t choice_problem.ForeignDefault c y = option_to_list (foreign_default t c y)
culprits_in lines t p c y = option_map_or (member_culprits lines p) (faulty_member t p y) []

abbrev pub choice_culprits : List LineValue → TreeValue → ChoiceProblem → ChoiceId → List Part
choice_culprits lines t p c = option_map_or (culprits_in lines t p c) (slice_get t.choices c.0) []
