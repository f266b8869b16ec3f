-- What is wrong with a symbol: this project's own list, after kconfig-language.rst.
use Rattle.std.specs.Prelude.{◌≡◌, ◌<◌, ℕ, ◌==◌, Bool, true, false, not, ◌&&◌, ◌||◌, List, [], ◌∷◌, Option, is_some, if◌then◌else◌, length, nat_lt, slice_get, codes}
use Rattle.std.specs.Option.{option_map_or}
use Rattle.std.specs.List.{list_any}
use Rattle.std.specs.Str.{bytes_eq}
use Rattle.kc_statement.specs.declared.id.SymId.{SymId}
use Rattle.kc_statement.specs.declared.symbol_type.SymbolType.{SymbolType}
use Rattle.kc_statement.specs.declared.symbol_type.SymbolType.TheVariants as kind
use Rattle.kc_statement.specs.declared.symbol_type.SymbolType.TheVariants.{Bool as BoolType}
use Rattle.kc_outline.specs.declared.symbol.Reverse.{Reverse}
use Rattle.kc_statement.specs.declared.attribute.DefaultValue.{DefaultValue}
use Rattle.kc_statement.specs.declared.attribute.Range.{Range}
use Rattle.kc_statement.specs.declared.expr.Term.{Term}
use Rattle.kc_statement.specs.declared.expr.Term.TheVariants.{Tri, Text, Symbol, Undefined}
use Rattle.kc_tree.specs.declared.problem.SymbolProblem.{SymbolProblem}
use Rattle.kc_tree.specs.declared.problem.SymbolProblem.TheVariants.{NoType, TypeConflict, SecondPrompt, UnfitDefault, UnfitSelect, BadModules}
use Rattle.std.specs.Char.{is_ascii_digit}
use Rattle.kc_statement.specs.Grammar.{lone_term}
use Rattle.kc_statement.specs.Numerals.{numeral_in}
use Rattle.kc_statement.specs.SymbolTypes.{is_tri_type}
use Rattle.kc_outline.specs.TreeValue.{TreeValue, SymbolValue, DefinitionValue, kind_of, name_of, definitions_of, same_type}

-- no line gives it a type; a member of a choice is a bool then
abbrev pub lacks_type : SymbolValue → Bool
lacks_type x = not (is_some (slice_get x.types 0)) && not (is_some x.choice)

-- a line gives it another type than the first
abbrev pub has_types : SymbolValue → Bool
has_types x = list_any (λ k. not (same_type (kind_of x) k)) x.types

-- a definition has two prompts or more
abbrev pub is_prompted_again : DefinitionValue → Bool
is_prompted_again d = nat_lt 1 (length d.prompts)

-- one of its definitions has
abbrev pub has_two_prompts : TreeValue → SymbolValue → Bool
has_two_prompts t x = list_any is_prompted_again (definitions_of t x)

-- the text is empty or begins as a number does
abbrev pub begins_as_number : List ℕ → Bool
begins_as_number [] = true
begins_as_number (b ∷ bs) = is_ascii_digit b || b == 45

-- a term that is no numeral of the type, int or hex, and should be one: it stands in quotes, or begins as a number does
abbrev pub is_unfit_term : SymbolType → Term → Bool
is_unfit_term k (Text w) = not (is_some (numeral_in k w))
is_unfit_term k (Undefined w) = not (is_some (numeral_in k w)) && begins_as_number w
is_unfit_term k (Tri v) = false
is_unfit_term k (Symbol s) = false

-- the value of a default, by the term that it is: a string, an int and a hex take one term
abbrev pub is_unfit_value : SymbolType → Option Term → Bool
is_unfit_value kind.Bool x = false
is_unfit_value kind.Tristate x = false
is_unfit_value kind.String x = not (is_some x)
is_unfit_value kind.Int x = option_map_or (is_unfit_term kind.Int) x true
is_unfit_value kind.Hex x = option_map_or (is_unfit_term kind.Hex) x true

abbrev pub is_unfit_default : SymbolType → DefaultValue → Bool
is_unfit_default k d = is_unfit_value k (lone_term d.value)

-- an int and a hex alone have ranges
abbrev pub is_unfit_range : SymbolType → Range → Bool
is_unfit_range kind.Int r = is_unfit_term kind.Int r.low || is_unfit_term kind.Int r.high
is_unfit_range kind.Hex r = is_unfit_term kind.Hex r.low || is_unfit_term kind.Hex r.high
is_unfit_range _ r = true

-- a default or a range of a definition does not fit the type
abbrev pub has_unfit : SymbolType → DefinitionValue → Bool
has_unfit k d = list_any (is_unfit_default k) d.defaults || list_any (is_unfit_range k) d.ranges

abbrev pub has_unfit_default : TreeValue → SymbolValue → Bool
has_unfit_default t x = list_any (has_unfit (kind_of x)) (definitions_of t x)

abbrev pub is_empty : List Reverse → Bool
is_empty [] = true
is_empty (r ∷ rs) = false

-- a string, an int or a hex that selects or implies, or that is selected or implied
abbrev pub has_unfit_select : SymbolValue → Bool
has_unfit_select x =
    not (is_tri_type (kind_of x)) && (x.has_selections || not (is_empty x.selected) || not (is_empty x.implied))

-- MODULES is no bool, or another symbol has `modules`
abbrev pub is_bad_modules : TreeValue → SymId → SymbolValue → Bool
is_bad_modules t s x =
    if bytes_eq (name_of t s) (codes "MODULES") then not (same_type (kind_of x) BoolType) else x.has_modules

-- ---- by the problem
abbrev pub is_at_fault : SymbolProblem → TreeValue → SymId → SymbolValue → Bool
is_at_fault NoType t s x = lacks_type x
is_at_fault TypeConflict t s x = has_types x
is_at_fault SecondPrompt t s x = has_two_prompts t x
is_at_fault UnfitDefault t s x = has_unfit_default t x
is_at_fault UnfitSelect t s x = has_unfit_select x
is_at_fault BadModules t s x = is_bad_modules t s x

-- the symbol of a number has the problem
abbrev pub has_problem : TreeValue → SymbolProblem → ℕ → Bool
has_problem t problem k = option_map_or (is_at_fault problem t (record { 0 = k })) (slice_get t.symbols k) false

-- or any of them
abbrev pub has_any_problem : TreeValue → ℕ → Bool
has_any_problem t k =
    list_any (λ problem. has_problem t problem k) (NoType ∷ TypeConflict ∷ SecondPrompt ∷ UnfitDefault ∷ UnfitSelect ∷ BadModules ∷ [])

-- no symbol has any
abbrev pub AreSymbolsFaultless : TreeValue → Type 0
AreSymbolsFaultless t = (k : ℕ) → k < length t.symbols → has_any_problem t k ≡ false
