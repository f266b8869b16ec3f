-- What is wrong with a choice: this project's own list, after kconfig-language.rst, "choices".
use Rattle.std.specs.Prelude.{ℕ, ◌==◌, nat_lt, Bool, false, not, List, Option, Some, None, if◌then◌else◌, is_some, option_and_then, length, slice_get}
use Rattle.std.specs.Option.{option_map_or}
use Rattle.std.specs.List.{list_any}
use Rattle.kc_statement.specs.declared.id.SymId.{SymId}
use Rattle.kc_outline.specs.declared.id.ChoiceId.{ChoiceId}
use Rattle.kc_statement.specs.declared.symbol_type.SymbolType.TheVariants.{Bool as BoolType}
use Rattle.kc_outline.specs.TreeValue.{TreeValue, SymbolValue, ChoiceValue, kind_of, choice_of, definitions_of, same_type, prompt_of, choice_prompt_of}
use Rattle.kc_tree.specs.declared.problem.ChoiceProblem.{ChoiceProblem}
use Rattle.kc_tree.specs.declared.problem.ChoiceProblem.TheVariants.{NoPrompt, SecondPrompt, ForeignDefault, MemberType, MemberWithoutPrompt, MemberDefinedAgain}

abbrev pub same_choice : ChoiceId → Option ChoiceId → Bool
same_choice c None = false
same_choice c (Some d) = d.0 == c.0

-- a default of a choice names one of its members; a member of two choices counts for the first
abbrev pub is_member : TreeValue → ChoiceId → Option SymId → Bool
is_member t c None = false
is_member t c (Some s) = same_choice c (choice_of t s)

abbrev pub has_prompt : TreeValue → SymbolValue → Bool
has_prompt t x = list_any (λ d. is_some (prompt_of d)) (definitions_of t x)

-- ---- what a member may not be
abbrev pub is_of_other_type : TreeValue → SymbolValue → Bool
is_of_other_type t x = not (same_type (kind_of x) BoolType)

abbrev pub lacks_prompt : TreeValue → SymbolValue → Bool
lacks_prompt t x = not (has_prompt t x)

abbrev pub is_defined_again : TreeValue → SymbolValue → Bool
is_defined_again t x = not (length x.definitions == 1)

-- a test of the symbol of a number
abbrev pub symbol_has : TreeValue → (TreeValue → SymbolValue → Bool) → SymId → Bool
symbol_has t test s = option_map_or (test t) (slice_get t.symbols s.0) false

-- each is sought among all members before the next
abbrev pub member_problem : TreeValue → List SymId → Option ChoiceProblem
member_problem t members =
    if list_any (symbol_has t is_of_other_type) members then Some MemberType
    else (if list_any (symbol_has t lacks_prompt) members then Some MemberWithoutPrompt
    else (if list_any (symbol_has t is_defined_again) members then Some MemberDefinedAgain else None))

-- ---- choices
-- without prompt, with two, with a default that is no member, or with a bad member
abbrev pub choice_problem : TreeValue → ChoiceId → ChoiceValue → Option ChoiceProblem
choice_problem t c x =
    if not (is_some (choice_prompt_of x)) then Some NoPrompt
    else (if nat_lt 1 (length x.prompts) then Some SecondPrompt
    else (if list_any (λ d. not (is_member t c d.symbol)) x.defaults then Some ForeignDefault
    else member_problem t x.members))

-- the problem of the choice of a number
abbrev pub problem_at : TreeValue → ℕ → Option ChoiceProblem
problem_at t k = option_and_then (choice_problem t (record { 0 = k })) (slice_get t.choices k)
