-- How a variable's text is read run by run, where the definitions read it byte by byte.
use Rattle.std.proofs.Common.{◌≡◌, ℕ, zero, suc, ◌<◌, Bool, true, false, not, cond, eqb, List, [], ◌∷◌, ◌++◌, Option, Some, None, length, take, drop, refl, sym, ap, ◌∙◌, arith}
use Rattle.std.specs.List.{prefix_len}
use Rattle.std.proofs.lemmas.Bool.Decides.{nat_tests}
use Rattle.kc_text.specs.References.{Piece, byte, reference, malformed, is_no_dollar, reference_after_dollar, reference_len, value_pieces_from, value_pieces}
use Rattle.kc_text.specs.Scanning.{bytes_of}
use Rattle.kc_text.proofs.Runs.{prefix_len-yes, prefix_len-no}

pub dollar_is_ascii : (b : ℕ) → is_no_dollar b ≡ false → b < 128
dollar_is_ascii b e = grind (arith, nat_tests)

-- bytes that belong to the part before are passed
pub value_pieces_from-drop : (n : ℕ) (bs : List ℕ) → value_pieces_from n bs ≡ value_pieces (drop n bs)
value_pieces_from-drop zero bs = refl
value_pieces_from-drop (suc n) [] = refl
value_pieces_from-drop (suc n) (b ∷ bs) = value_pieces_from-drop n bs

-- what a byte and those after it give, by whether it is a dollar
abbrev pub value_pieces_by : Bool → ℕ → List ℕ → List Piece
value_pieces_by v b bs =
    cond v (elim (reference_after_dollar bs) [
      | Some name ↦ reference name ∷ value_pieces_from (reference_len name) bs
      | None ↦ malformed ∷ []
    ]) (byte b ∷ value_pieces_from 0 bs)

-- so many bytes as they are, and what comes behind them
abbrev behind_run : List ℕ → ℕ → List Piece
behind_run bs n = bytes_of (take n bs) ++ value_pieces (drop n bs)

-- the run of bytes before a dollar stands for itself
pub value_pieces-run : (bs : List ℕ) → value_pieces bs ≡ behind_run bs (prefix_len is_no_dollar bs)
value_pieces-run [] = refl
value_pieces-run (b ∷ bs) =
    elim (eqb b 36) as (λ v. eqb b 36 ≡ v → value_pieces (b ∷ bs) ≡ behind_run (b ∷ bs) (prefix_len is_no_dollar (b ∷ bs))) [
      | true ↦ λ e. ap (behind_run (b ∷ bs)) (sym (prefix_len-no is_no_dollar b bs (ap not e)))
      | false ↦ λ e.
          ap (λ v. value_pieces_by v b bs) e ∙ ap (λ ps. byte b ∷ ps) (value_pieces-run bs)
          ∙ ap (behind_run (b ∷ bs)) (sym (prefix_len-yes is_no_dollar b bs (ap not e)))
    ] refl

-- a text without a dollar is its own expansion
pub value_pieces-plain : (bs : List ℕ) → prefix_len is_no_dollar bs ≡ length bs → value_pieces bs ≡ bytes_of bs
value_pieces-plain [] all = refl
value_pieces-plain (b ∷ bs) all =
    elim (eqb b 36) as (λ v. eqb b 36 ≡ v → value_pieces (b ∷ bs) ≡ bytes_of (b ∷ bs)) [
      | true ↦ λ e. absurd (omega (arith, all, prefix_len-no is_no_dollar b bs (ap not e)))
      | false ↦ λ e.
          ap (λ v. value_pieces_by v b bs) e
          ∙ ap (λ ps. byte b ∷ ps) (value_pieces-plain bs (omega (arith, all, prefix_len-yes is_no_dollar b bs (ap not e))))
    ] refl

abbrev pub after_value_dollar : Option (List ℕ) → List ℕ → List Piece
after_value_dollar found bs = elim found [
  | Some name ↦ reference name ∷ value_pieces_from (reference_len name) bs
  | None ↦ malformed ∷ []
]

-- a text that begins with a reference
pub value_pieces-reference : (bs name : List ℕ) → 0 < length bs → prefix_len is_no_dollar bs ≡ 0 → reference_after_dollar (drop 1 bs) ≡ Some name
    → value_pieces bs ≡ reference name ∷ value_pieces (drop (reference_len name) (drop 1 bs))
value_pieces-reference [] name h n e = absurd (omega (arith, h))
value_pieces-reference (b ∷ bs) name h n e =
    elim (eqb b 36) as (λ v. eqb b 36 ≡ v → value_pieces (b ∷ bs) ≡ reference name ∷ value_pieces (drop (reference_len name) bs)) [
      | true ↦ λ d. ap (λ v. value_pieces_by v b bs) d ∙ ap (λ found. after_value_dollar found bs) e ∙ ap (λ ps. reference name ∷ ps) (value_pieces_from-drop (reference_len name) bs)
      | false ↦ λ d. absurd (omega (arith, n, prefix_len-yes is_no_dollar b bs (ap not d)))
    ] refl
