-- Steps: what the reading of one line takes from a stream and leaves in the line buffer. This project's own.
use Rattle.std.specs.Prelude.{◌≡◌, ℕ, Bool, true, false, List, [], ◌∷◌, ◌++◌, Option}
use Rattle.std.specs.Io.KnownBytes.{Consumes, IsAtEnd}
use Rattle.kc_session.specs.declared.next_line.LineRead.{LineRead}
use Rattle.kc_session.specs.declared.next_line.LineRead.TheVariants.{Ended, Unended, Nothing}
use Rattle.kc_session.specs.Stream.{has_feed, is_ended, lines_of}
use Rattle.kc_session.specs.Held.{HeldLine, held_of}

-- a line with its line feed: the first line of each stream that begins with it, whatever follows
pub record IsEndedLine (line : List ℕ) : Type 0 where
  pub first : (more : List ℕ) → lines_of (line ++ more) ≡ line ∷ lines_of more
  pub ended : is_ended line ≡ true

-- a line without a line feed: it is the whole rest of its stream
pub record IsLastLine (line : List ℕ) : Type 0 where
  pub only : lines_of line ≡ line ∷ []
  pub unended : is_ended line ≡ false

-- a line with its line feed was taken, and is held as far as there is room for it
pub record TakesEndedLine (left after : Option (List ℕ)) (held : HeldLine) : Type 0 where
  pub line : List ℕ
  pub taken : Consumes left after line
  pub is_line : IsEndedLine line
  pub holds : held ≡ held_of line

-- the last line, without a line feed, was taken, and is held so; the stream has ended
pub record TakesLastLine (left after : Option (List ℕ)) (held : HeldLine) : Type 0 where
  pub line : List ℕ
  pub taken : Consumes left after line
  pub is_line : IsLastLine line
  pub holds : held ≡ held_of line
  pub end : IsAtEnd after

-- no byte was taken: the stream has ended
pub record TakesNothing (left after : Option (List ℕ)) : Type 0 where
  pub taken : Consumes left after []
  pub end : IsAtEnd after

-- what was taken from the stream and kept, by what was found
abbrev pub TakesLine : LineRead → Option (List ℕ) → Option (List ℕ) → HeldLine → Type 0
TakesLine Ended left after held = TakesEndedLine left after held
TakesLine Unended left after held = TakesLastLine left after held
TakesLine Nothing left after held = TakesNothing left after

-- reading failed within a line: the bytes taken have no line feed
pub record StopsInLine (left after : Option (List ℕ)) : Type 0 where
  pub part : List ℕ
  pub taken : Consumes left after part
  pub has_no_feed : has_feed part ≡ false

-- a line was found, and not the end of the stream alone
abbrev pub is_line : LineRead → Bool
is_line Ended = true
is_line Unended = true
is_line Nothing = false
