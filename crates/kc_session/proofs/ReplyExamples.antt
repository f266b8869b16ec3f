-- Commands with their replies, computed from the definitions. What each reply is was worked out by hand.
use Rattle.std.proofs.Common.{◌≡◌, ℕ, List, true, false, [], ◌∷◌, Option, Some, None, Ok, Err, refl}
use Rattle.std.specs.Prelude.{codes}
use Rattle.kc_statement.specs.declared.attribute.Prompt.{Prompt}
use Rattle.kc_statement.specs.declared.id.SymId.{SymId}
use Rattle.kc_statement.specs.declared.symbol_type.SymbolType.{SymbolType}
use Rattle.kc_statement.specs.declared.symbol_type.SymbolType.TheVariants.{Bool as BoolType, Tristate, String as StringType, Int, Hex}
use Rattle.kc_outline.specs.declared.entry.Entry.TheVariants.{Symbol as SymbolEntry}
use Rattle.kc_statement.specs.declared.tri.Tri.TheVariants.{No, Module, Yes}
use Rattle.kc_tree.specs.declared.user_value.UserVal.{UserVal}
use Rattle.kc_tree.specs.declared.user_value.UserVal.TheVariants.{Tri as TriVal, Text}
use Rattle.kc_outline.specs.TreeValue.{TreeValue, SymbolValue, DefinitionValue}
use Rattle.kc_value.specs.Rule.{rule}
use Rattle.kc_value.specs.Solution.{applied, solution}
use Rattle.kc_value.specs.Assignable.{assignable_values}
use Rattle.kc_session.specs.declared.command.Command.TheVariants.{Set, Unset, Reset, Show, List as ListAll, Choices, Config}
use Rattle.kc_session.specs.declared.command.Refusal.TheVariants.{UnknownCommand, BadLineCount, UndefinedSymbol, BadValue, BadMemberValue}
use Rattle.kc_session.specs.declared.command.Reply.TheVariants.{Done, Refused}
use Rattle.kc_session.specs.Commands.{request_in}
use Rattle.kc_session.specs.declared.command_line.Request.TheVariants.{Whole, WithBody}
use Rattle.kc_files.specs.declared.loading.Load.TheVariants.{Replace}
use Rattle.kc_session.specs.Effect.{perform}
use Rattle.kc_session.specs.Replies.{reply_bytes}
use Rattle.kc_session.specs.Session.{SessionValue}
use Rattle.kc_session.specs.ShowLine.{line_text, show_line_of, user_part}
use Rattle.kc_session.specs.Values.{value_of}

-- a symbol with one definition
abbrev symbol : SymbolType → ℕ → SymbolValue
symbol kind definition = record {
  types = kind ∷ [];
  choice = None;
  definitions = definition ∷ [];
  selected = [];
  implied = [];
  has_selections = false;
  has_modules = false;
  is_yes_in_allnoconfig = false;
}

-- a definition, with or without a prompt
abbrev definition : ℕ → List Prompt → DefinitionValue
definition s prompts = record {
  symbol = record { 0 = s };
  block = None;
  depends = [];
  prompts = prompts;
  defaults = [];
  ranges = [];
  select_count = 0;
  imply_count = 0;
}

abbrev prompted : List Prompt
prompted = record { text = codes "p"; condition = None } ∷ []

-- bool A and tristate T with prompts, and bool B without one
abbrev tree : TreeValue
tree = record {
  names = codes "A" ∷ codes "B" ∷ codes "T" ∷ [];
  symbols = symbol BoolType 0 ∷ symbol BoolType 1 ∷ symbol Tristate 2 ∷ [];
  definitions = definition 0 prompted ∷ definition 1 [] ∷ definition 2 prompted ∷ [];
  blocks = [];
  choices = [];
  comments = [];
  entries = SymbolEntry (record { 0 = 0 }) ∷ SymbolEntry (record { 0 = 1 }) ∷ SymbolEntry (record { 0 = 2 }) ∷ [];
}

abbrev session : Option UserVal → Option UserVal → Option UserVal → SessionValue
session a b t = record { tree = tree; user = record { values = a ∷ b ∷ t ∷ []; chosen = [] }; prefix = codes "CONFIG_" }

abbrev no : Option UserVal
no = Some (TriVal No)

abbrev yes : Option UserVal
yes = Some (TriVal Yes)

abbrev m_value : Option UserVal
m_value = Some (TriVal Module)

-- words are parted by one space each, and may be empty
set_words : request_in (codes "set B y") ≡ Ok (Whole (Set (codes "B") (codes "y")))
set_words = refl

set_empty : request_in (codes "set A ") ≡ Ok (Whole (Set (codes "A") []))
set_empty = refl

set_lacks_a_value : request_in (codes "set A") ≡ Err UnknownCommand
set_lacks_a_value = refl

-- the value is the whole rest
set_spaces : request_in (codes "set S a  b ") ≡ Ok (Whole (Set (codes "S") (codes "a  b ")))
set_spaces = refl

list_alone : request_in (codes "list") ≡ Ok (Whole ListAll)
list_alone = refl

choices_alone : request_in (codes "choices") ≡ Ok (Whole Choices)
choices_alone = refl

reset_alone : request_in (codes "reset") ≡ Ok (Whole Reset)
reset_alone = refl

reset_takes_nothing : request_in (codes "reset A") ≡ Err UnknownCommand
reset_takes_nothing = refl

unset_empty : request_in (codes "unset ") ≡ Ok (Whole (Unset []))
unset_empty = refl

config_takes_nothing : request_in (codes "config ") ≡ Err UnknownCommand
config_takes_nothing = refl

load_of_lines : request_in (codes "load 0012") ≡ Ok (WithBody Replace 12)
load_of_lines = refl

-- a count has seven digits at the most, and no sign
load_of_eight_digits : request_in (codes "load 00000001") ≡ Err BadLineCount
load_of_eight_digits = refl

load_of_nothing : request_in (codes "load ") ≡ Err BadLineCount
load_of_nothing = refl

load_with_sign : request_in (codes "load +1") ≡ Err BadLineCount
load_with_sign = refl

load_of_two : request_in (codes "load 1 2") ≡ Err UnknownCommand
load_of_two = refl

-- an edit changes the user value of its symbol alone
set_b : perform (session None None None) (Set (codes "B") (codes "y")) ≡ record { reply = Done []; user = (session None yes None).user; takes_memory = false }
unfolding perform
set_b = refl

set_m : perform (session None yes None) (Set (codes "A") (codes "m")) ≡ record { reply = Refused BadValue; user = (session None yes None).user; takes_memory = false }
unfolding perform
set_m = refl

-- m is a value of a tristate alone
set_tristate : perform (session None None None) (Set (codes "T") (codes "m")) ≡ record { reply = Done []; user = (session None None m_value).user; takes_memory = false }
unfolding perform
set_tristate = refl

set_unknown : (perform (session None None None) (Set (codes "U") (codes "y"))).reply ≡ Refused UndefinedSymbol
unfolding perform
set_unknown = refl

-- the user value of an invisible symbol is kept and has no effect
show_invisible : (perform (session no yes None) (Show (codes "B"))).reply ≡ Done (codes "B type=bool value=n vis=n can=- user=y\n")
unfolding perform show_line_of line_text assignable_values solution applied rule
show_invisible = refl

config_invisible : (perform (session no yes None) Config).reply ≡ Done (codes "# CONFIG_A is not set\n# CONFIG_T is not set\n")
unfolding perform solution applied rule
config_invisible = refl

-- that of a visible one has one
show_visible : (perform (session yes yes None) (Show (codes "A"))).reply ≡ Done (codes "A type=bool value=y vis=y can=n,y user=y\n")
unfolding perform show_line_of line_text assignable_values solution applied rule
show_visible = refl

-- without MODULES a tristate is bool, and m stands for y
show_tristate : (perform (session None None m_value) (Show (codes "T"))).reply ≡ Done (codes "T type=tristate value=y vis=y can=n,y user=m\n")
unfolding perform show_line_of line_text assignable_values solution applied rule
show_tristate = refl

bytes_of_done : reply_bytes (Done (codes "CONFIG_A=y\n")) ≡ codes "CONFIG_A=y\nok\n"
unfolding reply_bytes
bytes_of_done = refl

bytes_of_refused : reply_bytes (Refused BadValue) ≡ codes "refused 3\n"
unfolding reply_bytes
bytes_of_refused = refl

-- ---- values by type
string_takes_all : value_of StringType (codes "a \"b") ≡ Some (Text (codes "a \"b"))
string_takes_all = refl

int_takes_numerals : value_of Int (codes "-007") ≡ Some (Text (codes "-007"))
int_takes_numerals = refl

int_takes_no_hex : value_of Int (codes "0x10") ≡ None
int_takes_no_hex = refl

hex_takes_numerals : value_of Hex (codes "0x1F") ≡ Some (Text (codes "0x1F"))
hex_takes_numerals = refl

hex_takes_no_minus : value_of Hex (codes "-1") ≡ None
hex_takes_no_minus = refl

-- ---- members of a choice
-- a bool that is a member of the first choice
abbrev member : ℕ → SymbolValue
member definition = record {
  types = BoolType ∷ [];
  choice = Some (record { 0 = 0 });
  definitions = definition ∷ [];
  selected = [];
  implied = [];
  has_selections = false;
  has_modules = false;
  is_yes_in_allnoconfig = false;
}

-- string S, and the members M and N
abbrev other_tree : TreeValue
other_tree = record {
  names = codes "S" ∷ codes "M" ∷ codes "N" ∷ [];
  symbols = symbol StringType 0 ∷ member 1 ∷ member 2 ∷ [];
  definitions = definition 0 prompted ∷ definition 1 prompted ∷ definition 2 prompted ∷ [];
  blocks = [];
  choices = record { block = record { 0 = 0 }; prompts = prompted; defaults = []; members = record { 0 = 1 } ∷ record { 0 = 2 } ∷ []; is_optional = false } ∷ [];
  comments = [];
  entries = [];
}

abbrev other_session : Option UserVal → Option SymId → SessionValue
other_session s chosen = record { tree = other_tree; user = record { values = s ∷ None ∷ None ∷ []; chosen = chosen ∷ [] }; prefix = codes "CONFIG_" }

abbrev m_member : Option SymId
m_member = Some (record { 0 = 1 })

abbrev n_member : Option SymId
n_member = Some (record { 0 = 2 })

set_string : perform (other_session None None) (Set (codes "S") (codes "a b")) ≡ record { reply = Done []; user = (other_session (Some (Text (codes "a b"))) None).user; takes_memory = true }
unfolding perform
set_string = refl

-- y makes a member the chosen one
set_member_y : perform (other_session None m_member) (Set (codes "N") (codes "y")) ≡ record { reply = Done []; user = (other_session None n_member).user; takes_memory = false }
unfolding perform
set_member_y = refl

set_member_n : perform (other_session None m_member) (Set (codes "M") (codes "n")) ≡ record { reply = Refused BadMemberValue; user = (other_session None m_member).user; takes_memory = false }
unfolding perform
set_member_n = refl

unset_chosen : perform (other_session None m_member) (Unset (codes "M")) ≡ record { reply = Done []; user = (other_session None None).user; takes_memory = false }
unfolding perform
unset_chosen = refl

-- another member stays the chosen one
unset_other : perform (other_session None m_member) (Unset (codes "N")) ≡ record { reply = Done []; user = (other_session None m_member).user; takes_memory = false }
unfolding perform
unset_other = refl

reset_takes_all : perform (other_session (Some (Text (codes "a"))) m_member) Reset ≡ record { reply = Done []; user = (other_session None None).user; takes_memory = false }
unfolding perform
reset_takes_all = refl

chosen_shown : user_part other_tree (other_session None m_member).user (record { 0 = 1 }) ≡ codes "y"
chosen_shown = refl

other_not_shown : user_part other_tree (other_session None m_member).user (record { 0 = 2 }) ≡ codes "-"
other_not_shown = refl

-- a string stands in quotes
string_shown : user_part other_tree (other_session (Some (Text (codes "a\"b"))) None).user (record { 0 = 0 }) ≡ codes "\"a\\\"b\""
string_shown = refl

bytes_of_member : reply_bytes (Refused BadMemberValue) ≡ codes "refused 4\n"
unfolding reply_bytes
bytes_of_member = refl
