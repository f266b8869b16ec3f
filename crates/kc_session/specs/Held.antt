-- Steps: this project's own command stream: what the line buffer keeps of a line.
use Rattle.std.specs.Prelude.{ℕ, ◌+◌, nat_lt, Bool, cond, List, length, take, Option, Some, None}
use Rattle.kc_session.specs.Stream.{line_limit, fits_line, text_if_fits}

-- the first bytes of a line with its line end, and whether some had no room
pub record HeldLine : Type 0 where
  pub kept : List ℕ
  pub is_cut : Bool

-- the room for a line: the longest text and a line end of two bytes
abbrev pub line_room : ℕ
line_room = line_limit + 2

-- what is kept of a line, of which more may follow
unfoldable pub held_of : List ℕ → HeldLine
held_of line = record { kept = take line_room line; is_cut = nat_lt line_room (length line) }

-- the text of the line that is kept, or nothing where the line is too long
unfoldable pub text_held : HeldLine → Option (List ℕ)
text_held held = cond held.is_cut None (text_if_fits held.kept)

-- the line that is kept, or nothing where the line is too long
unfoldable pub line_held : HeldLine → Option (List ℕ)
line_held held = cond held.is_cut None (cond (fits_line held.kept) (Some held.kept) None)
