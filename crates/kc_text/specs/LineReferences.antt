-- The references to variables in a line and in the text of a variable: kconfig-macro-language.rst, "Variables". These are
-- the references in what the line shows, in their order: none is in a comment, none after a backslash in quotes, and none
-- after a fault, where reading stops.
use Rattle.std.specs.Prelude.{◌≡◌, ℕ, List, [], ◌∷◌, flat_map, map}
use denote.Ref.{Bor}
use Rattle.kc_text.specs.References.{Piece, byte, reference, malformed, value_pieces}
use Rattle.kc_text.specs.Shown.{Raw, word, quoted, operator, unclosed, not_allowed, Shows}

-- the name in a part, if that is a reference
abbrev pub piece_names : Piece → List (List ℕ)
piece_names (byte b) = []
piece_names (reference name) = name ∷ []
piece_names malformed = []

abbrev pub names_in_pieces : List Piece → List (List ℕ)
names_in_pieces ps = flat_map piece_names ps

abbrev pub token_names : Raw → List (List ℕ)
token_names (word ps) = names_in_pieces ps
token_names (quoted ps) = names_in_pieces ps
token_names (operator o) = []
token_names (unclosed ps) = names_in_pieces ps
token_names not_allowed = []

abbrev pub names_shown : List Raw → List (List ℕ)
names_shown shown = flat_map token_names shown

-- the names of the variables to which a line refers that defines none
abbrev pub AreReferences : List ℕ → List (List ℕ) → Type 0
AreReferences line names = (shown : List Raw) × Shows line shown × (names ≡ names_shown shown)

-- those to which the text of a variable refers
abbrev pub value_references : List ℕ → List (List ℕ)
value_references bs = names_in_pieces (value_pieces bs)

-- names that are lent
abbrev pub lent_names : List (Bor (List ℕ)) → List (List ℕ)
lent_names names = map (λ n. n.now) names
