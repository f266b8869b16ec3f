-- This project's own command stream: what a command changes and what is replied.
use Rattle.std.specs.Prelude.{◌≡◌, ℕ, Bool, true, false, List, [], Some, None, codes, IsTrue, if◌then◌else◌}
use Rattle.std.specs.Option.{option_map_or}
use Rattle.kc_statement.specs.declared.id.SymId.{SymId}
use Rattle.std.specs.Str.{bytes_eq}
use Rattle.kc_outline.specs.declared.id.ChoiceId.{ChoiceId}
use Rattle.kc_tree.specs.declared.user_value.UserVal.{UserVal}
use Rattle.kc_tree.specs.declared.user_value.UserVal.TheVariants.{Tri as TriVal, Text}
use Rattle.kc_outline.specs.TreeValue.{symbol_named, choice_of}
use Rattle.kc_value.specs.UserValues.{UserValues, with_value, with_chosen, chosen_in, no_values}
use Rattle.kc_value.specs.ChoiceRule.{is_symbol}
use Rattle.kc_value.specs.Solution.{solution}
use Rattle.kc_tree.specs.Fits.{type_of}
use Rattle.kc_files.specs.ConfigText.{config_text_of}
use Rattle.kc_files.specs.DefaultText.{default_text_of}
use Rattle.kc_files.specs.HeaderText.{header_text_of}
use Rattle.kc_files.specs.NewText.{new_text_of}
use Rattle.kc_files.specs.Loading.{user_after}
use Rattle.kc_files.specs.declared.loading.Load.{Load}
use Rattle.kc_files.specs.declared.loading.Load.TheVariants.{Replace, Merge as MergeLoad}
use Rattle.kc_value.specs.declared.all_values.AllValue.TheVariants as all
use Rattle.kc_session.specs.declared.command.Command.{Command}
use Rattle.kc_session.specs.declared.command.Command.TheVariants.{Set, Unset, Reset, Load as LoadBody, Merge, AllNo, AllYes, Show, List as ListAll, Choices, Config, Header, Defconfig, New}
use Rattle.kc_session.specs.declared.command.Refusal.{Refusal}
use Rattle.kc_session.specs.declared.command.Refusal.TheVariants.{UnknownCommand, UndefinedSymbol, BadValue, BadMemberValue, BadLineCount, TooLong, NoMemory}
use Rattle.kc_session.specs.declared.command.Reply.{Reply}
use Rattle.kc_session.specs.declared.command.Reply.TheVariants.{Done, Refused}
use Rattle.kc_value.specs.AllValues.{all_given}
use Rattle.kc_files.specs.OneReading.{assigns_in}
use Rattle.kc_session.specs.Bodies.{fits_body, warnings_text_of}
use Rattle.kc_session.specs.Session.{SessionValue, with_user}
use Rattle.kc_session.specs.ShowLine.{show_line_of, list_text_of}
use Rattle.kc_session.specs.ChoiceLine.{choices_text_of}
use Rattle.kc_session.specs.Values.{value_of}

abbrev pub refusal_number : Refusal → ℕ
refusal_number UnknownCommand = 1
refusal_number UndefinedSymbol = 2
refusal_number BadValue = 3
refusal_number BadMemberValue = 4
refusal_number BadLineCount = 5
refusal_number TooLong = 6
refusal_number NoMemory = 7

-- A reply, the user values after it, and whether it takes memory, which can be refused then: a query that has a text
-- takes some, a load that is done, and an edit that keeps a text. Nothing else does.
pub record Outcome : Type 0 where
  pub reply : Reply
  pub user : UserValues
  pub takes_memory : Bool

-- a refusal changes nothing
abbrev pub refuse : SessionValue → Refusal → Outcome
refuse s r = record { reply = Refused r; user = s.user; takes_memory = false }

-- a text changes nothing either
abbrev pub answer : SessionValue → List ℕ → Outcome
answer s text = record { reply = Done text; user = s.user; takes_memory = true }

-- an edit has no text
abbrev pub edit : UserValues → Outcome
edit u = record { reply = Done []; user = u; takes_memory = false }

-- what is done with the symbol of a name, where there is one
abbrev pub with_symbol : SessionValue → List ℕ → (SymId → Outcome) → Outcome
with_symbol s name use_it = option_map_or use_it (symbol_named s.tree name) (refuse s UndefinedSymbol)

-- a member of a choice takes y alone: it is the chosen one then
abbrev pub set_member : SessionValue → SymId → ChoiceId → List ℕ → Outcome
set_member s k c value =
    if bytes_eq value (codes "y") then edit (with_chosen s.user c (Some k)) else refuse s BadMemberValue

-- a copy is kept of a text
abbrev pub keeps_text : UserVal → Bool
keeps_text (TriVal v) = false
keeps_text (Text w) = true

abbrev pub give_value : SessionValue → SymId → UserVal → Outcome
give_value s k v = record { reply = Done []; user = with_value s.user k (Some v); takes_memory = keeps_text v }

-- a value that is not one of the symbol's type is refused
abbrev pub set_value : SessionValue → SymId → List ℕ → Outcome
set_value s k value = option_map_or (give_value s k) (value_of (type_of s.tree k) value) (refuse s BadValue)

abbrev pub set_symbol : SessionValue → List ℕ → SymId → Outcome
set_symbol s value k = option_map_or (λ c. set_member s k c value) (choice_of s.tree k) (set_value s k value)

abbrev pub set_outcome : SessionValue → List ℕ → List ℕ → Outcome
set_outcome s name value = with_symbol s name (set_symbol s value)

-- without the member as the chosen one of its choice, where it is that
abbrev pub unchosen : UserValues → SymId → ChoiceId → UserValues
unchosen u k c = if is_symbol (chosen_in u c) k then with_chosen u c None else u

abbrev pub unset_symbol : SessionValue → SymId → Outcome
unset_symbol s k = option_map_or (λ c. edit (unchosen s.user k c)) (choice_of s.tree k) (edit (with_value s.user k None))

abbrev pub unset_outcome : SessionValue → List ℕ → Outcome
unset_outcome s name = with_symbol s name (unset_symbol s)

abbrev pub reset_outcome : SessionValue → Outcome
reset_outcome s = edit (no_values s.tree)

-- the assignments of a body are applied, and its warnings are listed
abbrev pub loaded : SessionValue → Load → List ℕ → Outcome
loaded s load body = record {
  reply = Done (warnings_text_of s.tree s.prefix body);
  user = user_after s.tree s.user load (assigns_in s.tree s.prefix body);
  takes_memory = true;
}

-- a body that is too long, or that has a line too long, is refused
abbrev pub load_outcome : SessionValue → Load → List ℕ → Outcome
load_outcome s load body = if fits_body body then loaded s load body else refuse s TooLong

abbrev pub show_outcome : SessionValue → List ℕ → Outcome
show_outcome s name = with_symbol s name (λ k. answer s (show_line_of s.tree s.user k))

abbrev pub list_outcome : SessionValue → Outcome
list_outcome s = answer s (list_text_of s.tree s.user)

abbrev pub choices_outcome : SessionValue → Outcome
choices_outcome s = answer s (choices_text_of s.tree s.user)

-- the header of the text is empty
abbrev pub config_outcome : SessionValue → Outcome
config_outcome s = answer s (config_text_of s.tree s.prefix [] (solution s.tree s.user))

abbrev pub header_outcome : SessionValue → Outcome
header_outcome s = answer s (header_text_of s.tree s.prefix (solution s.tree s.user))

abbrev pub defconfig_outcome : SessionValue → Outcome
defconfig_outcome s = answer s (default_text_of s.tree s.user s.prefix)

abbrev pub new_outcome : SessionValue → Outcome
new_outcome s = answer s (new_text_of s.tree s.user s.prefix)

-- effect and reply of a command with ample memory
unfoldable pub perform : SessionValue → Command → Outcome
perform s (Set name value) = set_outcome s name value
perform s (Unset name) = unset_outcome s name
perform s Reset = reset_outcome s
perform s (LoadBody body) = load_outcome s Replace body
perform s (Merge body) = load_outcome s MergeLoad body
perform s AllNo = edit (all_given s.tree all.No)
perform s AllYes = edit (all_given s.tree all.Yes)
perform s (Show name) = show_outcome s name
perform s ListAll = list_outcome s
perform s Choices = choices_outcome s
perform s Config = config_outcome s
perform s Header = header_outcome s
perform s Defconfig = defconfig_outcome s
perform s New = new_outcome s

-- what a command that is refused its memory does instead
abbrev pub starved_or : SessionValue → Bool → Outcome → Outcome
starved_or s starved o = if starved then refuse s NoMemory else o

-- the outcome that is due, or memory was refused where the outcome takes some
pub record IsOutcome (old : SessionValue) (due : Outcome) (reply : Reply) (new : SessionValue) : Type 0 where
  pub starved : Bool
  pub may : IsTrue starved → IsTrue due.takes_memory
  pub replied : reply ≡ (starved_or old starved due).reply
  pub session : new ≡ with_user old (starved_or old starved due).user

-- the command was done as it is to be, or was refused its memory where it takes some
abbrev pub IsApplied : SessionValue → Command → Reply → SessionValue → Type 0
IsApplied old c reply new = IsOutcome old (perform old c) reply new

-- the reply that is due, or that memory was refused where the outcome takes some
pub record IsReplyTo (reply : Reply) (due : Outcome) : Type 0 where
  pub starved : Bool
  pub may : IsTrue starved → IsTrue due.takes_memory
  pub is : reply ≡ (if starved then Refused NoMemory else due.reply)
