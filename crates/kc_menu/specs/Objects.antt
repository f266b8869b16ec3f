-- Steps: what the JSON objects of the menu tree have: this project's own.
use Rattle.std.specs.Prelude.{ℕ, Bool, true, false, List, Option, Some, None, option_and_then, option_map, if◌then◌else◌, slice_get}
use Rattle.std.specs.Option.{option_map_or}
use Rattle.kc_text.specs.LineValue.{LineValue}
use Rattle.kc_statement.specs.Tristate.{letter}
use Rattle.kc_statement.specs.declared.id.SymId.{SymId}
use Rattle.kc_statement.specs.declared.tri.Tri.TheVariants.{Yes}
use Rattle.kc_outline.specs.declared.entry.Entry.{Entry}
use Rattle.kc_outline.specs.declared.entry.Entry.TheVariants.{Again}
use Rattle.kc_outline.specs.declared.id.ChoiceId.{ChoiceId}
use Rattle.kc_outline.specs.TreeValue.{TreeValue, choice_of, prompt_of}
use Rattle.kc_tree.specs.declared.user_value.UserVal.{UserVal}
use Rattle.kc_tree.specs.declared.user_value.UserVal.TheVariants as user
use Rattle.kc_value.specs.ChoiceRule.{is_symbol}
use Rattle.kc_value.specs.UserValues.{UserValues, chosen_in, user_value}
use Rattle.kc_lines.specs.Attributes.{last_help}
use Rattle.kc_lines.specs.declared.parts.Family.TheVariants as family
use Rattle.kc_lines.specs.LineIndex.{attributes_of, begins}
use Rattle.kc_menu.specs.declared.help.Help.{Help}
use Rattle.kc_menu.specs.declared.help.Help.TheVariants.{With, Without}

-- a help text, where help texts are wanted
abbrev pub wanted : Help → Option (List ℕ) → Option (List ℕ)
wanted With help = help
wanted Without help = None

-- the help text of the definition of a number, and of a choice: the last among its own attributes
abbrev pub definition_help : Help → List LineValue → ℕ → Option (List ℕ)
definition_help help lines number = wanted help (last_help (attributes_of (begins family.Definition) lines number))

abbrev pub choice_help : Help → List LineValue → ChoiceId → Option (List ℕ)
choice_help help lines c = wanted help (last_help (attributes_of (begins family.Choice) lines c.0))

-- the prompt of the definition of a number
abbrev pub definition_prompt : TreeValue → ℕ → Option (List ℕ)
definition_prompt t number = option_map (λ p. p.text) (option_and_then prompt_of (slice_get t.definitions number))

abbrev pub is_again : Entry → Bool
is_again (Again s) = true
is_again _ = false

-- what the user gave a symbol: of a member of a choice y where he chose it
abbrev pub given : UserVal → List ℕ
given (user.Tri v) = letter v
given (user.Text w) = w

abbrev pub user_part : TreeValue → UserValues → SymId → Option (List ℕ)
user_part t u s = option_map_or (λ c. if is_symbol (chosen_in u c) s then Some (letter Yes) else None) (choice_of t s) (option_map given (user_value u s))
