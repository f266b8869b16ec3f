-- The commands `allno` and `allyes` as user values: `allnoconfig` and `allyesconfig` of the kernel's
-- scripts/kconfig/conf.c and of Kconfiglib.
use Rattle.std.specs.Prelude.{Bool, false, ◌&&◌, not, Option, Some, None, is_some, length, map, replicate, slice_get, if◌then◌else◌}
use Rattle.std.specs.List.{range_with_len}
use Rattle.std.specs.Option.{option_map_or}
use Rattle.kc_statement.specs.declared.id.SymId.{SymId}
use Rattle.kc_statement.specs.declared.tri.Tri.{Tri}
use Rattle.kc_statement.specs.declared.tri.Tri.TheVariants as tri
use Rattle.kc_tree.specs.declared.user_value.UserVal.{UserVal}
use Rattle.kc_tree.specs.declared.user_value.UserVal.TheVariants.{Tri as TriVal}
use Rattle.kc_statement.specs.SymbolTypes.{is_tri_type}
use Rattle.kc_outline.specs.TreeValue.{TreeValue, choice_of}
use Rattle.kc_value.specs.UserValues.{UserValues}
use Rattle.kc_tree.specs.Fits.{type_of}
use Rattle.kc_value.specs.declared.all_values.AllValue.{AllValue}
use Rattle.kc_value.specs.declared.all_values.AllValue.TheVariants.{No, Yes}

-- a line `option allnoconfig_y` names the symbol
abbrev pub is_yes_in_allnoconfig : TreeValue → SymId → Bool
is_yes_in_allnoconfig t s = option_map_or (λ x. x.is_yes_in_allnoconfig) (slice_get t.symbols s.0) false

-- n, but y of a symbol that says so; or y
abbrev pub tri_given : TreeValue → AllValue → SymId → Tri
tri_given t No s = if is_yes_in_allnoconfig t s then tri.Yes else tri.No
tri_given t Yes s = tri.Yes

-- a bool or a tristate that is no member of a choice
abbrev pub is_free_tri : TreeValue → SymId → Bool
is_free_tri t s = not (is_some (choice_of t s)) && is_tri_type (type_of t s)

abbrev pub value_given : TreeValue → AllValue → SymId → Option UserVal
value_given t a s = if is_free_tri t s then Some (TriVal (tri_given t a s)) else None

-- each such symbol has this value, no other one has a value, and no member is chosen
unfoldable pub all_given : TreeValue → AllValue → UserValues
all_given t a = record {
  values = map (λ k. value_given t a (record { 0 = k })) (range_with_len 0 (length t.symbols));
  chosen = replicate (length t.choices) None;
}
