-- Steps: the user values while assignments are merged, one at a time: this project's own.
use Rattle.std.specs.Prelude.{◌==◌, Bool, not, ◌&&◌, List, Some, if◌then◌else◌}
use Rattle.std.specs.List.{list_any}
use Rattle.std.specs.Option.{option_map_or}
use Rattle.kc_statement.specs.declared.id.SymId.{SymId}
use Rattle.kc_outline.specs.declared.id.ChoiceId.{ChoiceId}
use Rattle.kc_outline.specs.TreeValue.{TreeValue, choice_of}
use Rattle.kc_value.specs.UserValues.{UserValues, with_value, with_chosen}
use Rattle.kc_files.specs.declared.assign.Assign.{Assign}
use Rattle.kc_files.specs.Loading.{is_yes, is_member_of}

abbrev pub is_assign_to : SymId → Assign → Bool
is_assign_to s a = a.symbol.0 == s.0

abbrev pub is_choosing : TreeValue → ChoiceId → Assign → Bool
is_choosing t c a = is_member_of t c a.symbol && is_yes a.value

-- with an assignment, unless one of the later ones gives its symbol a value, or chooses a member of its choice
abbrev pub merged_one : TreeValue → UserValues → Assign → List Assign → UserValues
merged_one t u a later =
    option_map_or (λ c. if is_yes a.value && not (list_any (is_choosing t c) later) then with_chosen u c (Some a.symbol) else u) (choice_of t a.symbol)
    (if not (list_any (is_assign_to a.symbol) later) then with_value u a.symbol (Some a.value) else u)
