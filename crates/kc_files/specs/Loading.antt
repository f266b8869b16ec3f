-- The user values after assignments of a `.config` were loaded: this project's own.
use Rattle.std.specs.Prelude.{◌==◌, Bool, true, false, ◌&&◌, List, [], ◌∷◌, Option, Some, None, is_some, map, length, if◌then◌else◌}
use Rattle.std.specs.List.{range_with_len}
use Rattle.std.specs.Option.{option_map_or, option_or}
use Rattle.kc_statement.specs.declared.id.SymId.{SymId}
use Rattle.kc_statement.specs.declared.tri.Tri.TheVariants.{No, Module, Yes}
use Rattle.kc_outline.specs.declared.id.ChoiceId.{ChoiceId}
use Rattle.kc_outline.specs.TreeValue.{TreeValue, choice_of}
use Rattle.kc_tree.specs.declared.user_value.UserVal.{UserVal}
use Rattle.kc_tree.specs.declared.user_value.UserVal.TheVariants.{Tri, Text}
use Rattle.kc_value.specs.UserValues.{UserValues, user_value, chosen_in}
use Rattle.kc_files.specs.declared.assign.Assign.{Assign}
use Rattle.kc_files.specs.declared.loading.Load.{Load}
use Rattle.kc_files.specs.declared.loading.Load.TheVariants.{Replace, Merge}

-- what the last assignment gives that gives anything
abbrev pub last_of : {X : Type 0} → (Assign → Option X) → List Assign → Option X
last_of f [] = None
last_of f (a ∷ later) = option_or (last_of f later) (f a)

-- the value that an assignment gives a symbol
abbrev pub value_for : SymId → Assign → Option UserVal
value_for s a = if a.symbol.0 == s.0 then Some a.value else None

abbrev pub is_yes : UserVal → Bool
is_yes (Tri Yes) = true
is_yes (Tri Module) = false
is_yes (Tri No) = false
is_yes (Text w) = false

-- the symbol is a member of this choice
abbrev pub is_member_of : TreeValue → ChoiceId → SymId → Bool
is_member_of t c s = option_map_or (λ d. d.0 == c.0) (choice_of t s) false

-- the member of a choice that an assignment chooses: one that is y
abbrev pub member_for : TreeValue → ChoiceId → Assign → Option SymId
member_for t c a = if is_member_of t c a.symbol && is_yes a.value then Some a.symbol else None

-- what is left of what was there before
abbrev pub kept : {X : Type 0} → Load → Option X → Option X
kept Replace x = None
kept Merge x = x

-- a symbol has the value of the last assignment to it, else what is kept; a member of a choice has none of its own
abbrev pub value_after : TreeValue → UserValues → Load → List Assign → SymId → Option UserVal
value_after t u load assigns s =
    if is_some (choice_of t s) then kept load (user_value u s)
    else option_or (last_of (value_for s) assigns) (kept load (user_value u s))

-- a choice has the member that the last assignment chooses, else what is kept
abbrev pub chosen_after : TreeValue → UserValues → Load → List Assign → ChoiceId → Option SymId
chosen_after t u load assigns c = option_or (last_of (member_for t c) assigns) (kept load (chosen_in u c))

abbrev pub user_after : TreeValue → UserValues → Load → List Assign → UserValues
user_after t u load assigns = record {
  values = map (λ k. value_after t u load assigns (record { 0 = k })) (range_with_len 0 (length t.symbols));
  chosen = map (λ k. chosen_after t u load assigns (record { 0 = k })) (range_with_len 0 (length t.choices));
}
