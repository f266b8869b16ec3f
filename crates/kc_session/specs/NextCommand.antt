-- Steps: what the reading of one command takes from a stream and leaves in the buffers. This project's own.
use Rattle.std.specs.Prelude.{◌≡◌, ◌≤◌, ℕ, ◌==◌, ◌&&◌, Bool, true, false, List, [], ◌∷◌, ◌++◌, length, Option}
use Rattle.std.specs.List.{list_all}
use Rattle.std.specs.Io.KnownBytes.{Consumes, IsAtEnd}
use Rattle.kc_session.specs.declared.next_command.CommandRead.{CommandRead}
use Rattle.kc_session.specs.declared.next_command.CommandRead.TheVariants.{Whole, Last, Nothing}
use Rattle.kc_session.specs.Held.{HeldLine, text_held}
use Rattle.kc_session.specs.HeldBody.{HeldBody, GivesBody, body_held, joined}
use Rattle.kc_session.specs.NextLine.{TakesNothing}
use Rattle.kc_session.specs.Stream.{is_ended, lines_of, text_if_fits}
use Rattle.kc_session.specs.StreamCommands.{StreamCommand, lines_taken, commands_of, complete_commands_of, is_complete}

-- ---- a body
-- lines with their line feeds: the first lines of each stream that begins with them, whatever follows
pub record AreEndedLines (lines : List (List ℕ)) : Type 0 where
  pub first : (more : List ℕ) → lines_of (joined lines ++ more) ≡ lines ++ lines_of more
  pub ended : list_all is_ended lines ≡ true

-- all lines were taken, each with its line feed
pub record TakesEndedBody (k : ℕ) (left after : Option (List ℕ)) (held : HeldBody) : Type 0 where
  pub lines : List (List ℕ)
  pub taken : Consumes left after (joined lines)
  pub are_lines : AreEndedLines lines
  pub count : length lines ≡ k
  pub gives : GivesBody (body_held held) k lines

-- the lines that are left were taken, so many at the most, and the stream has ended
pub record TakesLastBody (k : ℕ) (left after : Option (List ℕ)) (held : HeldBody) : Type 0 where
  pub lines : List (List ℕ)
  pub taken : Consumes left after (joined lines)
  pub are_lines : lines_of (joined lines) ≡ lines
  pub count : length lines ≤ k
  pub gives : GivesBody (body_held held) k lines
  pub end : IsAtEnd after

abbrev pub TakesBody : CommandRead → ℕ → Option (List ℕ) → Option (List ℕ) → HeldBody → Type 0
TakesBody Whole k left after held = TakesEndedBody k left after held
TakesBody Last k left after held = TakesLastBody k left after held
TakesBody Nothing k left after held = ⊥

-- reading failed within a body: not all its lines were taken with their line feeds
pub record StopsInBody (k : ℕ) (left after : Option (List ℕ)) : Type 0 where
  pub part : List ℕ
  pub taken : Consumes left after part
  pub count : length (lines_of part) ≤ k
  pub is_part : (length (lines_of part) == k && list_all is_ended (lines_of part)) ≡ false

-- ---- a command
-- a command with all its line feeds: the first of each stream that begins with it, whatever follows
pub record IsWholeCommand (bytes : List ℕ) (command : StreamCommand) : Type 0 where
  pub first : (more : List ℕ) → commands_of (bytes ++ more) ≡ command ∷ commands_of more
  pub complete : is_complete command ≡ true

-- the text of its line is kept, and its body, whose lines are those of its bytes
pub record HoldsCommand (line : HeldLine) (body : HeldBody) (command : StreamCommand) : Type 0 where
  pub text : text_held line ≡ text_if_fits command.line
  pub gives : GivesBody (body_held body) (lines_taken command.line) command.body
  pub are_lines : lines_of (joined command.body) ≡ command.body

pub record TakesWholeCommand (left after : Option (List ℕ)) (line : HeldLine) (body : HeldBody) : Type 0 where
  pub command : StreamCommand
  pub bytes : List ℕ
  pub taken : Consumes left after bytes
  pub is_command : IsWholeCommand bytes command
  pub holds : HoldsCommand line body command

-- the last command was taken: it is the whole rest of its stream, which has ended
pub record TakesLastCommand (left after : Option (List ℕ)) (line : HeldLine) (body : HeldBody) : Type 0 where
  pub command : StreamCommand
  pub bytes : List ℕ
  pub taken : Consumes left after bytes
  pub only : commands_of bytes ≡ command ∷ []
  pub holds : HoldsCommand line body command
  pub end : IsAtEnd after

-- what was taken from the stream and kept, by what was found
abbrev pub TakesCommand : CommandRead → Option (List ℕ) → Option (List ℕ) → HeldLine → HeldBody → Type 0
TakesCommand Whole left after line body = TakesWholeCommand left after line body
TakesCommand Last left after line body = TakesLastCommand left after line body
TakesCommand Nothing left after line body = TakesNothing left after

-- reading failed within a command: none is complete in the bytes taken
pub record StopsInCommand (left after : Option (List ℕ)) : Type 0 where
  pub part : List ℕ
  pub taken : Consumes left after part
  pub none : complete_commands_of part ≡ []

-- more commands may come
abbrev pub may_go_on : CommandRead → Bool
may_go_on Whole = true
may_go_on Last = false
may_go_on Nothing = false
