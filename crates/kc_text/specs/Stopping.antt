-- Steps: how the reading of a line comes to where it stops: this project's own.
use Rattle.std.specs.Prelude.{ℕ, ◌<◌, ◌≡◌, false, List, [], ◌∷◌, Some, None, length, slice_index}
use Rattle.kc_text.specs.declared.expansion.Piece.{Piece as Part}
use Rattle.kc_text.specs.declared.expansion.Piece.TheVariants.{Text, Reference, Malformed}
use Rattle.kc_text.specs.declared.stops.Stop.{Stop}
use Rattle.kc_text.specs.declared.stops.Passed.{Passed}
use Rattle.kc_text.specs.declared.stops.Passed.TheVariants.{Read, Stopped}
use Rattle.kc_text.specs.Bytes.{is_blank}
use Rattle.kc_text.specs.References.{reference_after_dollar}
use Rattle.kc_text.specs.Lexing.{Raw, raw_tokens}
use Rattle.kc_text.specs.Stops.{EndsWith, shown_at, stop_of}

-- a text that begins with a dollar that begins no reference
pub record BadDollar (text : List ℕ) : Type 0 where
  pub after : List ℕ
  pub begins : text ≡ 36 ∷ after
  pub none : reference_after_dollar after ≡ None

-- what comes after a part is the end of the text, or the part is a dollar that begins no reference
abbrev pub Leaves : Part → List ℕ → List ℕ → Type 0
Leaves (Text front) text after = EndsWith text after
Leaves (Reference name) text after = EndsWith text after
Leaves Malformed text after = BadDollar text

-- a text that begins with a token within which its reading stops
pub record StopsWithin (text : List ℕ) (stop : Stop) : Type 0 where
  pub token : Raw
  pub shows : raw_tokens text ≡ token ∷ []
  pub kind : stop_of token ≡ Some stop.kind
  pub at : List ℕ
  pub ends : EndsWith text at
  pub left : length at ≡ stop.left
  pub there : raw_tokens at ≡ shown_at stop.kind token ∷ []
  pub no_blank : 0 < length at → is_blank (slice_index at 0) ≡ false

-- a text that begins with a token, and what comes after it
pub record Passes (text after : List ℕ) : Type 0 where
  pub token : Raw
  pub shows : raw_tokens text ≡ token ∷ raw_tokens after
  pub read : stop_of token ≡ None
  pub ends : EndsWith text after
  pub shorter : length after < length text

-- what comes after the first token of a text, or the place in it where its reading stops
abbrev pub IsPassed : List ℕ → Passed → Type 0
IsPassed text (Read after) = Passes text after.now
IsPassed text (Stopped stop) = StopsWithin text stop
