-- The list of symbols that have no value from the user yet: `listnewconfig` of the kernel's scripts/kconfig/conf.c, as
-- this project has it.
use Rattle.std.specs.Prelude.{ℕ, Bool, not, ◌&&◌, ◌||◌, nat_le, List, [], length, is_some, count_by, slice_get, if◌then◌else◌}
use Rattle.std.specs.List.{flat_map}
use Rattle.std.specs.Option.{option_map_or}
use Rattle.kc_statement.specs.declared.id.SymId.{SymId}
use Rattle.kc_statement.specs.Tristate.{is_no}
use Rattle.kc_outline.specs.declared.id.ChoiceId.{ChoiceId}
use Rattle.kc_outline.specs.declared.entry.Entry.{Entry}
use Rattle.kc_outline.specs.declared.entry.Entry.TheVariants.{Symbol}
use Rattle.kc_outline.specs.TreeValue.{TreeValue, name_of, choice_of}
use Rattle.kc_tree.specs.declared.node.Node.TheVariants.{Vis, Val}
use Rattle.kc_statement.specs.SymbolTypes.{is_tri_type}
use Rattle.kc_value.specs.Assignable.{assignable_values}
use Rattle.kc_value.specs.Assignment.{Assignment, as_tri, as_text}
use Rattle.kc_value.specs.ChoiceRule.{is_symbol, is_visible, selected_in}
use Rattle.kc_value.specs.UserValues.{UserValues, user_value, chosen_in}
use Rattle.kc_value.specs.Solution.{solution}
use Rattle.kc_tree.specs.Fits.{type_of}
use Rattle.kc_files.specs.ConfigText.{text_line}

-- whether a user can give the symbol another value than it has: a text, or one of two or more that it can show
abbrev pub has_another_value : TreeValue → UserValues → SymId → Bool
has_another_value t u s = not (is_tri_type (type_of t s)) || nat_le 2 (length (assignable_values t u s))

-- a visible symbol that is no member of a choice, without a user value
abbrev pub is_new_symbol : TreeValue → UserValues → SymId → Bool
is_new_symbol t u s =
    not (is_no (as_tri (solution t u (Vis s)))) && not (is_some (user_value u s)) && has_another_value t u s

-- how many members of a choice are visible
abbrev pub visible_count : TreeValue → Assignment → ChoiceId → ℕ
visible_count t a c = option_map_or (λ x. count_by (is_visible t a) x.members) (slice_get t.choices c.0) 0

-- the selected member of a choice without a chosen one, where another member is visible too
abbrev pub is_new_member : TreeValue → UserValues → ChoiceId → SymId → Bool
is_new_member t u c s =
    is_symbol (selected_in t (solution t u) c) s && not (is_some (chosen_in u c))
    && nat_le 2 (visible_count t (solution t u) c)

abbrev pub is_new : TreeValue → UserValues → SymId → Bool
is_new t u s = option_map_or (λ c. is_new_member t u c s) (choice_of t s) (is_new_symbol t u s)

-- the name and the value that it has, n as `n`
abbrev pub new_line : TreeValue → UserValues → List ℕ → SymId → List ℕ
new_line t u prefix s =
    if is_new t u s then text_line prefix (name_of t s) (type_of t s) (as_text (solution t u (Val s))) else []

abbrev pub new_entry : TreeValue → UserValues → List ℕ → Entry → List ℕ
new_entry t u prefix (Symbol s) = new_line t u prefix s
new_entry t u prefix _ = []

-- the lines of the entries, in their order
abbrev pub new_text_of : TreeValue → UserValues → List ℕ → List ℕ
new_text_of t u prefix = flat_map (new_entry t u prefix) t.entries
