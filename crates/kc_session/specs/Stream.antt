-- This project's own command stream: how a stream of bytes is cut into lines.
use Rattle.std.specs.Prelude.{ℕ, ◌-◌, ◌==◌, nat_le, Bool, cond, List, [], ◌∷◌, length, take, slice_index, Option, Some, None}
use Rattle.std.specs.List.{list_any, onto_first}

-- the byte that ends a line
abbrev pub line_feed : ℕ
line_feed = 10

-- the byte that may stand before a line feed, and then belongs to the line end
abbrev pub carriage_return : ℕ
carriage_return = 13

-- the most bytes that a line may have, without its line end
abbrev pub line_limit : ℕ
line_limit = 65_536

-- some byte is a line feed
abbrev pub has_feed : List ℕ → Bool
has_feed bytes = list_any (λ b. b == line_feed) bytes

-- The lines of a stream, each with its line feed, which the last may lack. A stream without bytes has no line, and
-- nothing after the last line feed is no line either.
unfoldable pub lines_of : List ℕ → List (List ℕ)
lines_of [] = []
lines_of (b ∷ bs) = cond (b == line_feed) ((line_feed ∷ []) ∷ lines_of bs) (onto_first b (lines_of bs))

-- the last byte is `byte`
abbrev pub ends_in : ℕ → List ℕ → Bool
ends_in byte bytes = slice_index bytes (length bytes - 1) == byte

-- all but the last byte
abbrev pub without_last : List ℕ → List ℕ
without_last bytes = take (length bytes - 1) bytes

-- a line with its line feed
abbrev pub is_ended : List ℕ → Bool
is_ended line = ends_in line_feed line

-- a text without the one carriage return at its end, where there is one
abbrev pub without_return : List ℕ → List ℕ
without_return text = cond (ends_in carriage_return text) (without_last text) text

-- A line without its line end: the line feed and the one carriage return before it. A line without a line feed is the
-- last one, and keeps a carriage return at its end.
unfoldable pub text_of_line : List ℕ → List ℕ
text_of_line line = cond (is_ended line) (without_return (without_last line)) line

-- the line is not too long
abbrev pub fits_line : List ℕ → Bool
fits_line line = nat_le (length (text_of_line line)) line_limit

-- the text of a line, or nothing where the line is too long
abbrev pub text_if_fits : List ℕ → Option (List ℕ)
text_if_fits line = cond (fits_line line) (Some (text_of_line line)) None
