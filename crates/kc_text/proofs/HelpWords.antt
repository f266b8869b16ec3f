-- The word `help`: by which byte a line with it begins.
use Rattle.std.proofs.Common.{◌≡◌, ◌∙◌, ◌<◌, ℕ, zero, suc, List, [], ◌∷◌, true, false, ◌==◌, ◌||◌, not, codes, length, take, drop, slice_index, refl, ap, sym, subst, arith}
use Rattle.std.specs.Str.{bytes_eq}
use Rattle.std.proofs.lemmas.Bool.Decides.{nat_tests}
use Rattle.std.proofs.lemmas.Slice.Eq.{bytes_eq-Decides}
use Rattle.kc_text.specs.Bytes.{is_blank, behind_blanks, trimmed}
use Rattle.kc_text.specs.Help.{before_comment, is_help}
use Rattle.kc_text.proofs.Runs.{prefix_len-yes, prefix_len-no}

first_taken : (n : ℕ) (bs : List ℕ) → 0 < length (take n bs) → slice_index (take n bs) 0 ≡ slice_index bs 0
first_taken zero bs some = absurd (omega arith)
first_taken (suc n) [] some = refl
first_taken (suc n) (b ∷ bs) some = refl

pub some_taken : (n : ℕ) (bs : List ℕ) → 0 < length (take n bs) → 0 < length bs
some_taken zero bs some = absurd (omega arith)
some_taken (suc n) [] some = some
some_taken (suc n) (b ∷ bs) some = omega arith

pub behind-blank : (b : ℕ) (bs : List ℕ) → is_blank b ≡ true → behind_blanks (b ∷ bs) ≡ behind_blanks bs
behind-blank b bs e = ap (λ n. drop n (b ∷ bs)) (prefix_len-yes is_blank b bs e)

pub behind-other : (b : ℕ) (bs : List ℕ) → is_blank b ≡ false → behind_blanks (b ∷ bs) ≡ b ∷ bs
behind-other b bs e = ap (λ n. drop n (b ∷ bs)) (prefix_len-no is_blank b bs e)

abbrev FirstKept : List ℕ → List ℕ → Type 0
FirstKept before bs = 0 < length (behind_blanks before) → slice_index (behind_blanks before) 0 ≡ slice_index (behind_blanks bs) 0

first_kept : (bs : List ℕ) → FirstKept (before_comment bs) bs
first_kept [] = λ some. refl
first_kept (b ∷ bs) =
    let plain = λ (c : ℕ). not (c == 35) in
    elim (plain b) as (λ v. plain b ≡ v → FirstKept (before_comment (b ∷ bs)) (b ∷ bs)) [
      | true ↦ λ p.
          let before : before_comment (b ∷ bs) ≡ b ∷ before_comment bs = ap (λ n. take n (b ∷ bs)) (prefix_len-yes plain b bs p) in
          subst (λ l. FirstKept l (b ∷ bs)) (sym before)
          (elim (is_blank b) as (λ v. is_blank b ≡ v → FirstKept (b ∷ before_comment bs) (b ∷ bs)) [
            | true ↦ λ e some.
                ap (λ l. slice_index l 0) (behind-blank b (before_comment bs) e)
                ∙ first_kept bs (subst (λ l. 0 < length l) (behind-blank b (before_comment bs) e) some)
                ∙ sym (ap (λ l. slice_index l 0) (behind-blank b bs e))
            | false ↦ λ e some. ap (λ l. slice_index l 0) (behind-other b (before_comment bs) e) ∙ sym (ap (λ l. slice_index l 0) (behind-other b bs e))
          ] refl)
      | false ↦ λ p some.
          let before : before_comment (b ∷ bs) ≡ [] = ap (λ n. take n (b ∷ bs)) (prefix_len-no plain b bs p) in
          absurd (omega (arith, some, ap (λ l. length (behind_blanks l)) before))
    ] refl

-- a text that is left of a line begins as the line does
pub trimmed-first : (line text : List ℕ) → trimmed (before_comment line) ≡ text → 0 < length text → slice_index (behind_blanks line) 0 ≡ slice_index text 0
trimmed-first line text e some =
    let kept = behind_blanks (before_comment line) in
    let left : 0 < length (trimmed (before_comment line)) = subst (λ l. 0 < length l) (sym e) some in
    let some_kept : 0 < length kept = some_taken _ kept left in
    sym (first_kept line some_kept) ∙ sym (first_taken _ kept left) ∙ ap (λ l. slice_index l 0) e

differs : (line word : List ℕ) (b : ℕ) → 0 < length word → slice_index word 0 ≡ b → (slice_index (behind_blanks line) 0 == b) ≡ false → bytes_eq (trimmed (before_comment line)) word ≡ false
differs line word b some first other =
    elim (bytes_eq (trimmed (before_comment line)) word) as (λ v. bytes_eq (trimmed (before_comment line)) word ≡ v → v ≡ false) [
      | true ↦ λ e.
          let same : slice_index (behind_blanks line) 0 ≡ b = trimmed-first line word ((bytes_eq-Decides (trimmed (before_comment line)) word).0 e) some ∙ first in
          absurd (grind (arith, nat_tests))
      | false ↦ λ e. refl
    ] refl

-- a line that begins with neither `h` nor `-` is no `help`
pub no_help : (line : List ℕ) → (slice_index (behind_blanks line) 0 == 104 || slice_index (behind_blanks line) 0 == 45) ≡ false → is_help line ≡ false
no_help line neither =
    let first = slice_index (behind_blanks line) 0 in
    let h : (first == 104) ≡ false = grind (arith, nat_tests) in
    let dash : (first == 45) ≡ false = grind (arith, nat_tests) in
    rw (differs line (codes "help") 104 (omega arith) refl h, differs line (codes "---help---") 45 (omega arith) refl dash) refl
