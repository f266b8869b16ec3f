-- This project's own command stream: the body of a load, a `.config`.
use Rattle.std.specs.Prelude.{◌≡◌, ℕ, ◌&&◌, nat_le, Bool, true, false, List, ◌++◌, length, codes, decimal}
use Rattle.std.specs.List.{flat_map, list_all}
use Rattle.kc_outline.specs.TreeValue.{TreeValue}
use Rattle.kc_files.specs.declared.warning.Warning.{Warning}
use Rattle.kc_files.specs.LineReading.{warning_number}
use Rattle.kc_files.specs.OneReading.{warnings_in}
use Rattle.kc_session.specs.declared.command.Refusal.{Refusal}
use Rattle.kc_session.specs.declared.command.Refusal.TheVariants.{TooLong, NoMemory}
use Rattle.kc_session.specs.Stream.{lines_of, fits_line}

-- the most bytes that a body may have, with all line ends
abbrev pub body_limit : ℕ
body_limit = 16_777_216

-- neither the body is too long nor a line of it
unfoldable pub fits_body : List ℕ → Bool
fits_body body = nat_le (length body) body_limit && list_all fits_line (lines_of body)

-- the line about a warning
abbrev pub warning_line : Warning → List ℕ
warning_line w = codes "warning " ++ decimal w.line ++ codes " " ++ decimal (warning_number w.kind) ++ codes "\n"

abbrev pub warnings_text : List Warning → List ℕ
warnings_text ws = flat_map warning_line ws

-- the lines about the warnings of a body, in their order
unfoldable pub warnings_text_of : TreeValue → List ℕ → List ℕ → List ℕ
warnings_text_of t prefix body = warnings_text (warnings_in t prefix body)

-- why a body was not read: it is too long; or it is not, and memory was refused
abbrev pub IsReadRefusal : List ℕ → Refusal → Type 0
IsReadRefusal body TooLong = fits_body body ≡ false
IsReadRefusal body NoMemory = fits_body body ≡ true
IsReadRefusal body _ = ⊥
