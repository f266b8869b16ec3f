-- Where the reading of a line stops, and that of a variable's text: this project's own rule, over what Shown and References
-- say.
use Rattle.std.specs.Prelude.{ℕ, ◌<◌, ◌≡◌, Bool, true, false, List, [], ◌∷◌, ◌++◌, Option, Some, None, length, slice_index, if◌then◌else◌}
use Rattle.std.specs.List.{list_any}
use Rattle.kc_text.specs.declared.stops.Stop.{Stop}
use Rattle.kc_text.specs.declared.stops.StopKind.{StopKind}
use Rattle.kc_text.specs.declared.stops.StopKind.TheVariants.{BadCharacter, UnclosedQuote, BadReference}
use Rattle.kc_text.specs.Bytes.{is_blank}
use Rattle.kc_text.specs.References.{Piece, byte, reference, malformed, value_pieces}
use Rattle.kc_text.specs.Shown.{Raw, word, quoted, operator, unclosed, not_allowed, Shows}

-- a dollar that begins no reference
abbrev pub is_malformed : Piece → Bool
is_malformed (byte b) = false
is_malformed (reference name) = false
is_malformed malformed = true

-- parts with a dollar that begins no reference
abbrev pub is_bad : List Piece → Bool
is_bad ps = list_any is_malformed ps

-- why the reading of a line stops at what the line shows there, if it does
abbrev pub stop_of : Raw → Option StopKind
stop_of (word ps) = if is_bad ps then Some BadReference else None
stop_of (quoted ps) = None
stop_of (operator o) = None
stop_of (unclosed ps) = if is_bad ps then Some BadReference else Some UnclosedQuote
stop_of not_allowed = Some BadCharacter

-- why the reading of a line stops, by all that the line shows
abbrev pub first_stop : List Raw → Option StopKind
first_stop [] = None
first_stop (r ∷ rs) = elim (stop_of r) [ Some kind ↦ Some kind | None ↦ first_stop rs ]

-- what the line shows from the place on where its reading stops: a dollar is like one in a word of its own
abbrev pub shown_at : StopKind → Raw → Raw
shown_at BadReference r = word (malformed ∷ [])
shown_at BadCharacter r = r
shown_at UnclosedQuote r = r

-- a text with an end
abbrev pub EndsWith : List ℕ → List ℕ → Type 0
EndsWith text after = (before : List ℕ) × (text ≡ before ++ after)

-- a line that shows tokens, and after them one at which its reading stops
pub record Stops (line : List ℕ) (stop : Stop) : Type 0 where
  pub tokens : List Raw
  pub last : Raw
  pub shows : Shows line (tokens ++ last ∷ [])
  pub read : first_stop tokens ≡ None
  pub kind : stop_of last ≡ Some stop.kind
  -- the place: the bytes from there on
  pub at : List ℕ
  pub ends : EndsWith line at
  pub left : length at ≡ stop.left
  pub there : Shows at (shown_at stop.kind last ∷ [])
  pub no_blank : 0 < length at → is_blank (slice_index at 0) ≡ false

-- the text of a variable with parts, and after them a dollar that begins no reference, from which on it has so many bytes
pub record StopsInValue (text : List ℕ) (left : ℕ) : Type 0 where
  pub parts : List Piece
  pub sound : is_bad parts ≡ false
  pub at : List ℕ
  pub ends : EndsWith text at
  pub are : value_pieces text ≡ parts ++ value_pieces at
  pub there : value_pieces at ≡ malformed ∷ []
  pub is_left : length at ≡ left
