-- Which values change besides those that lines name: this project's own.
use Rattle.std.specs.Prelude.{◌≡◌, ◌<◌, ◌&&◌, ◌||◌, ◌==◌, ℕ, Bool, true, false, not, List, [], ◌∷◌, length, slice_index_or}
use Rattle.std.specs.List.{flat_map, list_any, range_with_len}
use Rattle.kc_statement.specs.declared.tri.Tri.{Tri}
use Rattle.kc_statement.specs.declared.tri.Tri.TheVariants.{No, Module, Yes}
use Rattle.kc_statement.specs.declared.id.SymId.{SymId}
use Rattle.kc_tree.specs.declared.node.Node.TheVariants.{Val}
use Rattle.kc_tree.specs.declared.user_value.UserVal.{UserVal}
use Rattle.kc_tree.specs.declared.user_value.UserVal.TheVariants.{Tri as TriVal, Text}
use Rattle.kc_value.specs.Assignment.{Assignment, as_tri}
use Rattle.kc_value.specs.declared.value.Value.{Value}
use Rattle.kc_value.specs.declared.value.Value.TheVariants.{Tri as Level, Shown, Member}
use Rattle.kc_files.specs.declared.assign.Assign.{Assign}
use Rattle.kc_files.specs.Effects.{has_effect}

-- ---- the values of all symbols, as lines
abbrev pub line_of : SymId → Value → List Assign
line_of s (Level v) = []
line_of s (Shown x written) = record { symbol = s; value = x } ∷ []
line_of s (Member m) = []

abbrev pub line_at : Assignment → ℕ → List Assign
line_at a n = line_of (record { 0 = n }) (a (Val (record { 0 = n })))

abbrev pub value_lines : Assignment → ℕ → List Assign
value_lines a symbols = flat_map (line_at a) (range_with_len 0 symbols)

-- ---- the symbols that lines name, by number
abbrev pub names : ℕ → Assign → Bool
names n x = x.symbol.0 == n

-- just those symbols are marked that a wanted value or a line names
abbrev pub AreNamed : List Assign → List Assign → ℕ → List Bool → Type 0
AreNamed wanted lines symbols marks =
    (n : ℕ) → n < symbols → slice_index_or marks n false ≡ (list_any (names n) wanted || list_any (names n) lines)

-- ---- what changes
-- the symbol has no mark, and no longer this value
abbrev pub is_changed : Assignment → List Bool → Assign → Bool
is_changed a marks x = not (slice_index_or marks x.symbol.0 false) && not (has_effect a x)

-- a tristate value is less than another
abbrev pub is_less : Tri → Tri → Bool
is_less No No = false
is_less No Module = true
is_less No Yes = true
is_less Module No = false
is_less Module Module = false
is_less Module Yes = true
is_less Yes w = false

abbrev pub is_below : Tri → UserVal → Bool
is_below v (TriVal w) = is_less v w
is_below v (Text w) = false

-- the same, where the value was a greater tristate one
abbrev pub is_lowered : Assignment → List Bool → Assign → Bool
is_lowered a marks x = not (slice_index_or marks x.symbol.0 false) && is_below (as_tri (a (Val x.symbol))) x.value
