-- A line without a line feed asks for no value that has one.
use Rattle.std.proofs.Common.{◌≡◌, ℕ, Bool, true, false, cond, if◌then◌else◌, List, Option, Some, None, Result, Ok, Err, sym, ap, ◌∙◌, subst}
use Rattle.std.specs.Option.{option_map_or}
use Rattle.std.specs.Prelude.{codes}
use Rattle.std.specs.Str.{bytes_eq, is_utf8}
use Rattle.kc_files.specs.declared.loading.Load.{Load}
use Rattle.kc_files.specs.declared.loading.Load.TheVariants.{Replace, Merge as MergeLoad}
use Rattle.kc_session.specs.declared.command.Command.{Command}
use Rattle.kc_session.specs.declared.command.Command.TheVariants.{Set, Unset, Reset, AllNo, AllYes, Show, List as ListAll, Choices, Config, Header, Defconfig, New}
use Rattle.kc_session.specs.declared.command.Refusal.{Refusal}
use Rattle.kc_session.specs.declared.command.Refusal.TheVariants.{UnknownCommand, BadLineCount}
use Rattle.kc_session.specs.declared.command_line.Request.{Request}
use Rattle.kc_session.specs.declared.command_line.Request.TheVariants.{Whole, WithBody}
use Rattle.kc_session.specs.Commands.{command_word, is_parted, line_count, load_command, load_request, request_of, request_of_text, request_with, request_with_argument, rest_after, whole, word_before}
use Rattle.kc_session.specs.DefaultReply.{HasNoFeed, IsUnfedRequest}
use Rattle.kc_session.specs.Held.{HeldLine, text_held}
use Rattle.kc_session.specs.HeldBody.{HeldBody}
use Rattle.kc_session.specs.NextCommand.{HoldsCommand}
use Rattle.kc_session.specs.Stream.{fits_line, has_feed, text_of_line}
use Rattle.kc_session.specs.StreamCommands.{StreamCommand}
use Rattle.kc_session.proofs.PlainLines.{feed_drop}

abbrev IsUnfedWord : Option Command → Type 0
IsUnfedWord None = Unit {0}
IsUnfedWord (Some c) = HasNoFeed c

-- ---- what a text asks for
words_unfed : (a b c d e f g h i : Bool) → IsUnfedWord
    (if a then Some Config else (if b then Some ListAll else (if c then Some Choices else (if d then Some Reset else (if e then Some AllNo
    else (if f then Some AllYes else (if g then Some Header else (if h then Some Defconfig else (if i then Some New else None)))))))))
words_unfed true b c d e f g h i = tt
words_unfed false true c d e f g h i = tt
words_unfed false false true d e f g h i = tt
words_unfed false false false true e f g h i = tt
words_unfed false false false false true f g h i = tt
words_unfed false false false false false true g h i = tt
words_unfed false false false false false false true h i = tt
words_unfed false false false false false false false true i = tt
words_unfed false false false false false false false false true = tt
words_unfed false false false false false false false false false = tt

word_unfed : (text : List ℕ) → IsUnfedWord (command_word text)
word_unfed text =
    words_unfed (bytes_eq text (codes "config")) (bytes_eq text (codes "list")) (bytes_eq text (codes "choices")) (bytes_eq text (codes "reset"))
    (bytes_eq text (codes "allno")) (bytes_eq text (codes "allyes")) (bytes_eq text (codes "header")) (bytes_eq text (codes "defconfig")) (bytes_eq text (codes "new"))

whole_unfed : (o : Option Command) → IsUnfedWord o → IsUnfedRequest (whole o)
whole_unfed None p = tt
whole_unfed (Some c) p = p

count_unfed : (load : Load) (o : Option ℕ) → IsUnfedRequest (option_map_or (λ k. Ok (WithBody load k)) o (Err BadLineCount))
count_unfed load None = tt
count_unfed load (Some k) = tt

arguments_unfed : (a b c d : Bool) (argument : List ℕ) → IsUnfedRequest
    (if a then Ok (Whole (Unset argument)) else (if b then Ok (Whole (Show argument)) else (if c then load_request Replace argument
    else (if d then load_request MergeLoad argument else Err UnknownCommand))))
arguments_unfed true b c d argument = tt
arguments_unfed false true c d argument = tt
arguments_unfed false false true d argument = count_unfed Replace (line_count argument)
arguments_unfed false false false true argument = count_unfed MergeLoad (line_count argument)
arguments_unfed false false false false argument = tt

argument_unfed : (word argument : List ℕ) → IsUnfedRequest (request_with_argument word argument)
argument_unfed word argument =
    arguments_unfed (bytes_eq word (codes "unset")) (bytes_eq word (codes "show")) (bytes_eq word (codes "load")) (bytes_eq word (codes "merge")) argument

rest_unfed : (text : List ℕ) → has_feed text ≡ false → has_feed (rest_after text) ≡ false
rest_unfed text none = feed_drop _ text none

parts_unfed : (a b : Bool) (word rest : List ℕ) → has_feed rest ≡ false → IsUnfedRequest
    (if a then (if b then Ok (Whole (Set (word_before rest) (rest_after rest))) else Err UnknownCommand) else (if b then Err UnknownCommand else request_with_argument word rest))
parts_unfed true true word rest none = rest_unfed rest none
parts_unfed true false word rest none = tt
parts_unfed false true word rest none = tt
parts_unfed false false word rest none = argument_unfed word rest

with_unfed : (word rest : List ℕ) → has_feed rest ≡ false → IsUnfedRequest (request_with word rest)
with_unfed word rest none = parts_unfed (bytes_eq word (codes "set")) (is_parted rest) word rest none

text_asks : (a b : Bool) (text : List ℕ) → has_feed text ≡ false → IsUnfedRequest
    (if a then (if b then request_with (word_before text) (rest_after text) else whole (command_word text)) else Err UnknownCommand)
text_asks true true text none = with_unfed (word_before text) (rest_after text) (rest_unfed text none)
text_asks true false text none = whole_unfed (command_word text) (word_unfed text)
text_asks false b text none = tt

request_unfed : (text : List ℕ) → has_feed text ≡ false → IsUnfedRequest (request_of text)
unfolding request_of
request_unfed text none = text_asks (is_utf8 text) (is_parted text) text none

pub asked_unfed : (q : Result Request Refusal) (c : Command) → q ≡ Ok (Whole c) → IsUnfedRequest q → HasNoFeed c
asked_unfed q c is none = subst IsUnfedRequest is none

-- a load takes its body's lines, of which none can end in the middle of a value
pub load_unfed : (load : Load) (body : List ℕ) → HasNoFeed (load_command load body)
load_unfed Replace body = tt
load_unfed MergeLoad body = tt

-- ---- the command that the buffers hold
text_unfed : (b : Bool) (text : List ℕ) → has_feed text ≡ false → IsUnfedRequest (request_of_text (cond b (Some text) None))
text_unfed true text none = request_unfed text none
text_unfed false text none = tt

-- what a line without a line feed keeps is kept, whichever command is held
pub held_unfed : {P Q : Type 0} (line : HeldLine) (held : HeldBody) (q : Result Request Refusal) → (IsUnfedRequest q → P → Q) → (c : StreamCommand) → q ≡ request_of_text (text_held line) → HoldsCommand line held c
    → has_feed (text_of_line c.line) ≡ false → P → Q
held_unfed line held q stays c is h none =
    stays (subst IsUnfedRequest (sym (is ∙ ap request_of_text h.text)) (text_unfed (fits_line c.line) (text_of_line c.line) none))
