-- This project's own command stream: how its lines are cut into commands.
use Rattle.std.specs.Prelude.{ℕ, zero, suc, ◌==◌, ◌&&◌, Bool, List, [], ◌∷◌, length, take, filter, Result}
use Rattle.std.specs.List.{list_all}
use Rattle.kc_session.specs.declared.command.Refusal.{Refusal}
use Rattle.kc_session.specs.declared.command_line.Request.{Request}
use Rattle.kc_session.specs.Commands.{request_of_text, lines_asked}
use Rattle.kc_session.specs.Stream.{is_ended, lines_of, text_if_fits}

-- A command as it stands in the stream: its line, and the lines that it takes as its body, each with its line end.
pub record StreamCommand : Type 0 where
  pub line : List ℕ
  pub body : List (List ℕ)

abbrev pub command_with_body : List ℕ → List (List ℕ) → StreamCommand
command_with_body line body = record { line = line; body = body }

-- what a line asks for, or why it is refused
abbrev pub request_of_line : List ℕ → Result Request Refusal
request_of_line line = request_of_text (text_if_fits line)

-- how many lines a line takes as its body: those of a load that is not refused itself
unfoldable pub lines_taken : List ℕ → ℕ
lines_taken line = lines_asked (request_of_line line)

-- The commands of lines, of which the first ones are taken already. A load takes what is left where that is too little.
unfoldable pub commands_after : ℕ → List (List ℕ) → List StreamCommand
commands_after taken [] = []
commands_after zero (line ∷ lines) = command_with_body line (take (lines_taken line) lines) ∷ commands_after (lines_taken line) lines
commands_after (suc taken) (line ∷ lines) = commands_after taken lines

-- the commands of a stream, in their order
unfoldable pub commands_of : List ℕ → List StreamCommand
commands_of stream = commands_after 0 (lines_of stream)

-- all of the command is there: all its lines, each with its line feed
abbrev pub is_complete : StreamCommand → Bool
is_complete c = is_ended c.line && (length c.body == lines_taken c.line && list_all is_ended c.body)

-- the commands that were read completely when reading failed after these bytes
unfoldable pub complete_commands_of : List ℕ → List StreamCommand
complete_commands_of stream = filter is_complete (commands_of stream)
