-- Steps: what the values of the code stand for: this project's own.
use Rattle.std.specs.Prelude.{ℕ, ◌-◌, List, [], ◌∷◌, ◌++◌, length, map, flat_map}
use Rattle.std.specs.String.{string_bytes}
use denote.Ref.{Bor}
use Rattle.std.specs.Prelude.{◌≡◌}
use Rattle.kc_text.specs.declared.fault.LineFault.{LineFault}
use Rattle.kc_text.specs.declared.fault.LineFault.TheVariants.{Problem, NoMemory as NoLineMemory}
use Rattle.kc_text.specs.declared.fault.TextFault.{TextFault}
use Rattle.kc_text.specs.declared.fault.TextFault.TheVariants.{NoMemory}
use Rattle.kc_text.specs.declared.reading.Reader.{Reader}
use Rattle.kc_text.specs.declared.reading.State.{State}
use Rattle.kc_text.specs.declared.place.Place.{Place as CodePlace}
use Rattle.kc_text.specs.FileList.{File}
use Rattle.kc_text.specs.Faults.{IsFaultAt}
pub use Rattle.kc_text.specs.ItemContent.{item_of, joined_text}
use Rattle.kc_text.specs.Reading.{ReadState, Place, Placing, placed}
use Rattle.kc_text.specs.declared.expansion.Piece.{Piece as Part}
use Rattle.kc_text.specs.declared.expansion.Piece.TheVariants.{Text, Reference, Malformed}
use Rattle.kc_text.specs.declared.lexer.RawToken.{RawToken}
use Rattle.kc_text.specs.declared.lexer.RawToken.TheVariants.{Word, Spliced, Quoted, QuotedParts, Operator, Unclosed, NotAllowed}
use Rattle.kc_text.specs.declared.expansion.Expansion.{Expansion}
use Rattle.kc_text.specs.References.{Piece, byte, reference, malformed}
use Rattle.kc_text.specs.Lexing.{Raw, word, quoted, operator, unclosed, not_allowed}
use Rattle.kc_text.specs.Expansion.{Progress, Environment, names_in, texts_in}

abbrev pub bytes_of : List ℕ → List Piece
bytes_of bs = map byte bs

abbrev pub piece_of : Part → List Piece
piece_of (Text text) = bytes_of text.now
piece_of (Reference name) = reference name.now ∷ []
piece_of Malformed = malformed ∷ []

abbrev pub pieces_of : List Part → List Piece
pieces_of parts = flat_map piece_of parts

abbrev pub raw_of : RawToken → Raw
raw_of (Word text) = word (bytes_of text.now)
raw_of (Spliced parts) = word (pieces_of parts.items)
raw_of (Quoted text) = quoted (bytes_of text.now)
raw_of (QuotedParts parts) = quoted (pieces_of parts.items)
raw_of (Operator o) = operator o
raw_of (Unclosed parts) = unclosed (pieces_of parts.items)
raw_of NotAllowed = not_allowed

abbrev pub progress_of : Expansion → Progress
progress_of e = record { text = e.before.now ++ string_bytes e.text; followed = e.followed }

abbrev pub texts_of : List (Bor (List ℕ)) → List (List ℕ)
texts_of texts = map (λ t. t.now) texts

abbrev pub names_of : List (Bor (List ℕ)) → List (List ℕ)
names_of names = texts_of names

abbrev pub state_of : State → ReadState
state_of s = record { lines = s.lines.items; names = names_in s.variables; followed = s.followed; placed = s.placed }

abbrev pub place_of : CodePlace → Place
place_of p = record { path = p.file.now.path; run = p.file.now.run; number = p.number }

-- the texts that a reader is handed for names
abbrev pub outside_of : Reader → Environment
outside_of reader = texts_in reader.vars.now

-- how a reader includes these files where those of the paths `around` are open, of 64 at most
abbrev pub placing : List File → Reader → List (Bor (List ℕ)) → Placing
placing files reader around = placed files (outside_of reader) (64 - length around) (names_of around)

-- what could not be read at a place, as its fault
abbrev pub IsPlacedFault : TextFault → Place → LineFault → Type 0
IsPlacedFault fault at (Problem problem) = IsFaultAt fault problem at.path at.number
IsPlacedFault fault at NoLineMemory = fault ≡ NoMemory
