-- Which values a user can give a symbol with an effect: Kconfiglib, "assignable", stated by the values shown.
use Rattle.std.specs.Prelude.{Bool, true, false, List, [], ◌∷◌, Some, filter, slice_get, is_some, if◌then◌else◌}
use Rattle.std.specs.List.{list_any}
use Rattle.std.specs.Option.{option_map_or}
use Rattle.kc_statement.specs.declared.tri.Tri.{Tri}
use Rattle.kc_statement.specs.declared.tri.Tri.TheVariants.{No, Module, Yes}
use Rattle.kc_statement.specs.declared.id.SymId.{SymId}
use Rattle.kc_tree.specs.declared.node.Node.TheVariants.{Vis, Val}
use Rattle.kc_tree.specs.declared.user_value.UserVal.TheVariants.{Tri as TriVal}
use Rattle.kc_statement.specs.declared.symbol_type.SymbolType.{SymbolType}
use Rattle.kc_statement.specs.declared.symbol_type.SymbolType.TheVariants.{Bool as BoolType, Tristate}
use Rattle.kc_outline.specs.TreeValue.{TreeValue, kind_of, choice_of}
use Rattle.kc_statement.specs.Tristate.{is_no}
use Rattle.kc_value.specs.Assignment.{Assignment, as_tri}
use Rattle.kc_value.specs.UserValues.{UserValues, with_value}
use Rattle.kc_value.specs.Rule.{rule}
use Rattle.kc_value.specs.Solution.{solution}

abbrev pub same_tri : Tri → Tri → Bool
same_tri No No = true
same_tri No Module = false
same_tri No Yes = false
same_tri Module No = false
same_tri Module Module = true
same_tri Module Yes = false
same_tri Yes No = false
same_tri Yes Module = false
same_tri Yes Yes = true

-- what the symbol would show with this user value, all else as it is
abbrev pub shown_with : TreeValue → UserValues → Assignment → SymId → Tri → Tri
shown_with t u a s v = as_tri (rule t (with_value u s (Some (TriVal v))) a (Val s))

-- the values of the declared type
abbrev pub values_of_type : SymbolType → List Tri
values_of_type BoolType = No ∷ Yes ∷ []
values_of_type Tristate = No ∷ Module ∷ Yes ∷ []
values_of_type _ = []

abbrev pub values_of : TreeValue → SymId → List Tri
values_of t s = option_map_or (λ x. values_of_type (kind_of x)) (slice_get t.symbols s.0) []

-- whether some value of its type would show this one
abbrev pub is_shown_with_some : TreeValue → UserValues → Assignment → SymId → Tri → Bool
is_shown_with_some t u a s w = list_any (λ v. same_tri (shown_with t u a s v) w) (values_of t s)

-- the values that a symbol shows for some user value of its type
abbrev pub shown_values : TreeValue → UserValues → Assignment → SymId → List Tri
shown_values t u a s = filter (is_shown_with_some t u a s) (No ∷ Module ∷ Yes ∷ [])

-- of a visible symbol these, of a visible member y alone, and none of an invisible one
abbrev pub assignable_in : TreeValue → UserValues → Assignment → SymId → List Tri
assignable_in t u a s =
    if is_no (as_tri (a (Vis s))) then []
    else (if is_some (choice_of t s) then Yes ∷ [] else shown_values t u a s)

unfoldable pub assignable_values : TreeValue → UserValues → SymId → List Tri
assignable_values t u s = assignable_in t u (solution t u) s
