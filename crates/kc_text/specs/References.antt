-- References to variables: kconfig-macro-language.rst, "Variables". A reference is `$(`, a name and `)`; functions are
-- no part of this project's language.
use Rattle.std.specs.Prelude.{ℕ, zero, suc, ◌+◌, Bool, not, ◌&&◌, List, [], ◌∷◌, Option, Some, None, length, take, drop, codes, if◌then◌else◌, ◌==◌}
use Rattle.std.specs.List.{list_all, prefix_len}
use Rattle.std.specs.Char.{is_ascii_digit}
use Rattle.std.specs.Str.{bytes_eq}
use Rattle.kc_text.specs.Bytes.{is_name, begins_with}

-- a part of a text: a byte as it is; a reference, by the name in it; a dollar that begins none
pub data Piece : Type 0 where
  byte : ℕ → Piece
  reference : List ℕ → Piece
  malformed : Piece

-- a name that a reference may have: it is not of digits alone, and not that of a function
abbrev pub is_referable : List ℕ → Bool
is_referable name = not (list_all is_ascii_digit name) && (not (bytes_eq name (codes "filename")) && not (bytes_eq name (codes "lineno")))

-- the longest name that the bytes begin with
abbrev pub leading_name : List ℕ → List ℕ
leading_name bs = take (prefix_len is_name bs) bs

-- the name in the reference whose dollar stands before the bytes
abbrev pub reference_after_dollar : List ℕ → Option (List ℕ)
reference_after_dollar [] = None
reference_after_dollar (b ∷ bs) =
    if b == 40 && (begins_with 41 (drop (prefix_len is_name bs) bs) && is_referable (leading_name bs)) then Some (leading_name bs) else None

-- the bytes of a reference behind its dollar: the name and the parentheses round it
abbrev pub reference_len : List ℕ → ℕ
reference_len name = length name + 2

-- a byte of a variable's text that stands for itself
abbrev pub is_no_dollar : ℕ → Bool
is_no_dollar b = not (b == 36)

-- the parts of a variable's text, where so many bytes belong to the part before; the first bad dollar is the last part
abbrev pub value_pieces_from : ℕ → List ℕ → List Piece
value_pieces_from n [] = []
value_pieces_from (suc n) (b ∷ bs) = value_pieces_from n bs
value_pieces_from zero (b ∷ bs) =
    if b == 36 then (elim (reference_after_dollar bs) [
      | Some name ↦ reference name ∷ value_pieces_from (reference_len name) bs
      | None ↦ malformed ∷ []
    ]) else byte b ∷ value_pieces_from 0 bs

abbrev pub value_pieces : List ℕ → List Piece
value_pieces bs = value_pieces_from 0 bs
