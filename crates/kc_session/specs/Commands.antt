-- This project's own command stream: what the text of a line asks for.
use Rattle.std.specs.Prelude.{ℕ, Bool, ◌==◌, List, length, Option, Some, None, Result, Ok, Err, codes, nat_le, nat_lt, if◌then◌else◌}
use Rattle.std.specs.Option.{option_map_or}
use Rattle.std.specs.List.{before_first, after_first, position_or_len}
use Rattle.std.specs.Str.{bytes_eq, is_utf8}
use Rattle.kc_statement.specs.Numerals.{digits_up_to}
use Rattle.kc_files.specs.declared.loading.Load.{Load}
use Rattle.kc_files.specs.declared.loading.Load.TheVariants.{Replace, Merge as MergeLoad}
use Rattle.kc_session.specs.declared.command.Command.{Command}
use Rattle.kc_session.specs.declared.command.Command.TheVariants.{Set, Unset, Reset, Load as LoadBody, Merge, AllNo, AllYes, Show, List as ListAll, Choices, Config, Header, Defconfig, New}
use Rattle.kc_session.specs.declared.command.Refusal.{Refusal}
use Rattle.kc_session.specs.declared.command.Refusal.TheVariants.{UnknownCommand, BadLineCount, TooLong}
use Rattle.kc_session.specs.declared.command_line.Request.{Request}
use Rattle.kc_session.specs.declared.command_line.Request.TheVariants.{Whole, WithBody}

abbrev pub is_space : ℕ → Bool
is_space b = b == 32

-- the text has a space
abbrev pub is_parted : List ℕ → Bool
is_parted text = nat_lt (position_or_len is_space text) (length text)

-- what stands before the first space, and what stands after it; words may be empty
abbrev pub word_before : List ℕ → List ℕ
word_before text = before_first is_space text

abbrev pub rest_after : List ℕ → List ℕ
rest_after text = after_first is_space text

-- a command that is one word
abbrev pub command_word : List ℕ → Option Command
command_word text =
    if bytes_eq text (codes "config") then Some Config
    else (if bytes_eq text (codes "list") then Some ListAll
    else (if bytes_eq text (codes "choices") then Some Choices
    else (if bytes_eq text (codes "reset") then Some Reset
    else (if bytes_eq text (codes "allno") then Some AllNo
    else (if bytes_eq text (codes "allyes") then Some AllYes
    else (if bytes_eq text (codes "header") then Some Header
    else (if bytes_eq text (codes "defconfig") then Some Defconfig
    else (if bytes_eq text (codes "new") then Some New else None))))))))

-- a command that is one line, where it is one
abbrev pub whole : Option Command → Result Request Refusal
whole c = option_map_or (λ c. Ok (Whole c)) c (Err UnknownCommand)

-- the number of lines: one to seven decimal digits
abbrev pub line_count : List ℕ → Option ℕ
line_count text = if nat_le (length text) 7 then digits_up_to 9_999_999 text else None

-- a load of so many lines
abbrev pub load_request : Load → List ℕ → Result Request Refusal
load_request load count = option_map_or (λ k. Ok (WithBody load k)) (line_count count) (Err BadLineCount)

-- `unset` and `show` take a name, `load` and `merge` the number of the lines of a body
abbrev pub request_with_argument : List ℕ → List ℕ → Result Request Refusal
request_with_argument word argument =
    if bytes_eq word (codes "unset") then Ok (Whole (Unset argument))
    else (if bytes_eq word (codes "show") then Ok (Whole (Show argument))
    else (if bytes_eq word (codes "load") then load_request Replace argument
    else (if bytes_eq word (codes "merge") then load_request MergeLoad argument else Err UnknownCommand)))

-- `set` takes a name and the whole rest as a value, others one argument
abbrev pub request_with : List ℕ → List ℕ → Result Request Refusal
request_with word rest =
    if bytes_eq word (codes "set") then (if is_parted rest then Ok (Whole (Set (word_before rest) (rest_after rest))) else Err UnknownCommand)
    else (if is_parted rest then Err UnknownCommand else request_with_argument word rest)

abbrev pub request_word : List ℕ → Result Request Refusal
request_word text = whole (command_word text)

-- what a text asks for, or why it is refused
abbrev pub request_in : List ℕ → Result Request Refusal
request_in text =
    if is_parted text then request_with (word_before text) (rest_after text) else request_word text

-- a line that is not UTF-8 spells nothing
unfoldable pub request_of : List ℕ → Result Request Refusal
request_of text = if is_utf8 text then request_in text else Err UnknownCommand

-- a line that is too long has no text
abbrev pub request_of_text : Option (List ℕ) → Result Request Refusal
request_of_text None = Err TooLong
request_of_text (Some text) = request_of text

-- how many lines are its body
abbrev pub lines_asked : Result Request Refusal → ℕ
lines_asked (Ok (Whole c)) = 0
lines_asked (Ok (WithBody load k)) = k
lines_asked (Err r) = 0

-- the command that loads a body
abbrev pub load_command : Load → List ℕ → Command
load_command Replace body = LoadBody body
load_command MergeLoad body = Merge body
