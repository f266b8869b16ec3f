-- Steps: the user values while assignments are loaded, one at a time: this project's own.
use Rattle.std.specs.Prelude.{List, [], ◌∷◌, Some, None, replicate, length, if◌then◌else◌}
use Rattle.std.specs.Option.{option_map_or}
use Rattle.kc_outline.specs.TreeValue.{TreeValue, choice_of}
use Rattle.kc_value.specs.UserValues.{UserValues, with_value, with_chosen}
use Rattle.kc_files.specs.declared.assign.Assign.{Assign}
use Rattle.kc_files.specs.declared.loading.Load.{Load}
use Rattle.kc_files.specs.declared.loading.Load.TheVariants.{Replace, Merge}
use Rattle.kc_files.specs.Loading.{is_yes}

abbrev pub with_loaded : TreeValue → UserValues → Assign → UserValues
with_loaded t u a =
    option_map_or (λ c. if is_yes a.value then with_chosen u c (Some a.symbol) else u) (choice_of t a.symbol)
    (with_value u a.symbol (Some a.value))

abbrev pub loaded : TreeValue → UserValues → List Assign → UserValues
loaded t u [] = u
loaded t u (a ∷ later) = loaded t (with_loaded t u a) later

-- what is left before the first
abbrev pub left_by : Load → UserValues → UserValues
left_by Replace u = record { values = replicate (length u.values) None; chosen = replicate (length u.chosen) None }
left_by Merge u = u
