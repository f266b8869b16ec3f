-- The text of the default file: `savedefconfig` of the kernel's scripts/kconfig/conf.c and `write_min_config` of
-- Kconfiglib, stated by what the user's own values change; it can have other lines than theirs, and loads to the same.
use Rattle.std.specs.Prelude.{ℕ, Bool, ◌&&◌, List, [], Option, Some, None, is_some, option_and_then, if◌then◌else◌}
use Rattle.std.specs.List.{flat_map}
use Rattle.std.specs.Option.{option_map_or}
use Rattle.kc_statement.specs.declared.id.SymId.{SymId}
use Rattle.kc_statement.specs.declared.tri.Tri.TheVariants.{Yes}
use Rattle.kc_outline.specs.declared.id.ChoiceId.{ChoiceId}
use Rattle.kc_outline.specs.declared.entry.Entry.{Entry}
use Rattle.kc_outline.specs.declared.entry.Entry.TheVariants.{Symbol}
use Rattle.kc_outline.specs.TreeValue.{TreeValue, name_of, choice_of}
use Rattle.kc_tree.specs.declared.node.Node.TheVariants.{Val, Sel}
use Rattle.kc_tree.specs.declared.user_value.UserVal.{UserVal}
use Rattle.kc_tree.specs.declared.user_value.UserVal.TheVariants.{Tri}
use Rattle.kc_value.specs.ChoiceRule.{is_symbol, selected_in}
use Rattle.kc_value.specs.UserValues.{UserValues}
use Rattle.kc_value.specs.Solution.{solution}
use Rattle.kc_value.specs.ChangedValue.{changed_value}
use Rattle.kc_value.specs.Replay.{shown_in}
use Rattle.kc_tree.specs.Fits.{type_of}
use Rattle.kc_files.specs.ConfigText.{symbol_line}

-- the selected member of a choice whose selection is another than without a chosen member
abbrev pub is_changed_member : TreeValue → UserValues → ChoiceId → SymId → Bool
is_changed_member t u c s =
    is_symbol (selected_in t (solution t u) c) s && is_some (changed_value t u (Sel c))

-- the value that a symbol has in the default file: what it shows, where that is another value than without the user's
-- own; and y for a member that is selected where without a chosen member another selection would be
abbrev pub default_value : TreeValue → UserValues → SymId → Option UserVal
default_value t u s =
    option_map_or (λ c. if is_changed_member t u c s then Some (Tri Yes) else None) (choice_of t s)
    (option_and_then shown_in (changed_value t u (Val s)))

-- its line, where it has one
abbrev pub default_line : TreeValue → UserValues → List ℕ → SymId → List ℕ
default_line t u prefix s = option_map_or (symbol_line prefix (name_of t s) (type_of t s)) (default_value t u s) []

abbrev pub default_entry : TreeValue → UserValues → List ℕ → Entry → List ℕ
default_entry t u prefix (Symbol s) = default_line t u prefix s
default_entry t u prefix _ = []

-- the lines of the entries, in their order
abbrev pub default_text_of : TreeValue → UserValues → List ℕ → List ℕ
default_text_of t u prefix = flat_map (default_entry t u prefix) t.entries
