-- This project's own command `show`: its line about a symbol.
use Rattle.std.specs.Prelude.{ℕ, Bool, List, length, if◌then◌else◌, [], ◌∷◌, ◌++◌, Option, Some, None, codes}
use Rattle.std.specs.List.{flat_map, range_with_len}
use Rattle.std.specs.Option.{option_map_or}
use Rattle.kc_statement.specs.declared.id.SymId.{SymId}
use Rattle.kc_tree.specs.declared.node.Node.TheVariants.{Vis, Val}
use Rattle.kc_statement.specs.declared.symbol_type.SymbolType.{SymbolType}
use Rattle.kc_statement.specs.declared.symbol_type.SymbolType.TheVariants.{Bool as BoolType, Tristate, String as StringType, Int, Hex}
use Rattle.kc_statement.specs.declared.tri.Tri.{Tri}
use Rattle.kc_statement.specs.declared.tri.Tri.TheVariants.{No, Module, Yes}
use Rattle.kc_tree.specs.declared.user_value.UserVal.{UserVal}
use Rattle.kc_tree.specs.declared.user_value.UserVal.TheVariants.{Tri as TriVal, Text}
use Rattle.kc_outline.specs.TreeValue.{TreeValue, name_of, choice_of}
use Rattle.kc_value.specs.Assignment.{as_tri, as_text}
use Rattle.kc_value.specs.declared.value.Value.{Value}
use Rattle.kc_value.specs.ChoiceRule.{is_symbol}
use Rattle.kc_value.specs.UserValues.{UserValues, user_value, chosen_in}
use Rattle.kc_value.specs.Solution.{solution}
use Rattle.kc_value.specs.Assignable.{assignable_values}
use Rattle.kc_tree.specs.Fits.{type_of}
use Rattle.kc_files.specs.ConfigText.{text_in}

abbrev pub type_text : SymbolType → List ℕ
type_text BoolType = codes "bool"
type_text Tristate = codes "tristate"
type_text StringType = codes "string"
type_text Int = codes "int"
type_text Hex = codes "hex"

abbrev pub tri_text : Tri → List ℕ
tri_text No = codes "n"
tri_text Module = codes "m"
tri_text Yes = codes "y"

-- the values with commas between them, a dash where there is none
abbrev pub values_text : List Tri → List ℕ
values_text [] = codes "-"
values_text (v ∷ vs) = tri_text v ++ flat_map (λ w. codes "," ++ tri_text w) vs

-- a value by the type of its symbol: a string stands in quotes
abbrev pub user_text : SymbolType → UserVal → List ℕ
user_text k (TriVal v) = tri_text v
user_text k (Text w) = text_in k w

-- what the user gave a symbol, a dash where he gave nothing
abbrev pub given_text : SymbolType → Option UserVal → List ℕ
given_text k None = codes "-"
given_text k (Some v) = user_text k v

-- of a member of a choice y where the user chose it
abbrev pub chosen_text : Bool → List ℕ
chosen_text chosen = if chosen then codes "y" else codes "-"

abbrev pub user_part : TreeValue → UserValues → SymId → List ℕ
user_part t u s = option_map_or (λ c. chosen_text (is_symbol (chosen_in u c) s)) (choice_of t s) (given_text (type_of t s) (user_value u s))

-- the value that a symbol shows
abbrev pub shown_text : SymbolType → Value → List ℕ
shown_text k v = text_in k (as_text v)

-- the name, its type, its value, its visibility, the values that the user can give it, and what he gave it
unfoldable pub line_text : List ℕ → SymbolType → Value → Tri → List Tri → List ℕ → List ℕ
line_text name kind value visibility values user =
    name ++ codes " type=" ++ type_text kind ++ codes " value=" ++ shown_text kind value ++ codes " vis=" ++ tri_text visibility
    ++ codes " can=" ++ values_text values ++ codes " user=" ++ user ++ codes "\n"

-- the line about a symbol of a tree, with the user values
unfoldable pub show_line_of : TreeValue → UserValues → SymId → List ℕ
show_line_of t u s =
    line_text (name_of t s) (type_of t s) (solution t u (Val s)) (as_tri (solution t u (Vis s))) (assignable_values t u s) (user_part t u s)

-- the lines about all symbols, by number
unfoldable pub list_text_of : TreeValue → UserValues → List ℕ
list_text_of t u = flat_map (λ k. show_line_of t u (record { 0 = k })) (range_with_len 0 (length t.symbols))
