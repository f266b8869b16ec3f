-- Readings of lines by place, and one after another.
use Rattle.std.proofs.Common.{◌≡◌, ℕ, zero, suc, ◌+◌, ◌-◌, ◌<◌, ◌≤◌, ◌==◌, List, [], ◌∷◌, ◌++◌, length, take, reverse, get_or, Some, refl, sym, ap, ◌∙◌, subst, inl, inr, ◌⊎◌, arith}
use Rattle.std.specs.List.{slice_get}
use Rattle.std.proofs.lemmas.Bool.{eq-eqb}
use Rattle.std.proofs.lemmas.Bool.Decides.{eqb_tells}
use Rattle.std.proofs.lemmas.List.{reverse-append, length-append, length-reverse, length-take-le, take_more}
use Rattle.std.proofs.lemmas.Option.{none-some, same_Some, slice_get_within, slice_get_cases, get_or_from_slice_get}
use Rattle.kc_text.specs.LineValue.{LineValue}
use Rattle.kc_statement.specs.Names.{names_of}
use Rattle.kc_outline.specs.Enclosing.{before}
use Rattle.kc_outline.specs.Reader.{AreReadingsBefore, IsOnlyForm, AreOnlyForms}
use Rattle.kc_outline.specs.TreeOf.{Reading, IsReading, IsReadingAt, AreFirstReadings}
use Rattle.kc_outline.proofs.BlockLaws.{at_take, slice_get_left, slice_get_seam}

-- no line follows the last
pub last_place : (n i : ℕ) → i < n → (n - i - 1 == 0) ≡ (i + 1 == n)
last_place n i within = elim (eqb_tells (i + 1) n) [
  | inl same ↦
      let zero_left : n - i - 1 ≡ 0 = omega (arith, same.1) in
      eq-eqb (n - i - 1) 0 zero_left ∙ sym same.0
  | inr other ↦
      elim (eqb_tells (n - i - 1) 0) [
        | inl zero_left ↦ absurd (other.1 (omega (arith, within, zero_left.1)))
        | inr more ↦ more.0 ∙ sym other.0
      ]
]

-- the lines before the next place
pub before_more : (lines : List LineValue) (i : ℕ) (l : LineValue) → slice_get lines i ≡ Some l → before lines (i + 1) ≡ l ∷ before lines i
before_more lines i l is =
    let within = slice_get_within lines i l is in
    ap reverse (take_more lines i l within) ∙ reverse-append (take i lines) (get_or lines i l ∷ []) ∙ ap (λ x. x ∷ before lines i) (get_or_from_slice_get lines i l l is)

-- an element of a list with one more at its end
at_push : {X : Type 0} (xs : List X) (y : X) (i : ℕ) (x : X) → slice_get (xs ++ y ∷ []) i ≡ Some x → (slice_get xs i ≡ Some x) ⊎ ((i ≡ length xs) × (y ≡ x))
at_push [] y zero x is = inr (refl, same_Some y x is)
at_push [] y (suc i) x is = absurd (none-some x is)
at_push (z ∷ xs) y zero x is = inl is
at_push (z ∷ xs) y (suc i) x is = elim (at_push xs y i x is) [ inl there ↦ inl there | inr last ↦ inr (let here = last.0 in omega (arith, here), last.1) ]

reverse_cons : {X : Type 0} (x : X) (xs : List X) → reverse (x ∷ xs) ≡ reverse xs ++ x ∷ []
reverse_cons x xs = reverse-append (x ∷ []) xs

-- ---- what is known of the readings of the first lines: each is read so, and says nothing else
pub record AreRead (lines : List LineValue) (count : ℕ) (rs : List Reading) : Type 0 where
  pub readings : AreFirstReadings lines count rs
  pub only : (i : ℕ) (l : LineValue) (r : Reading) → slice_get lines i ≡ Some l → slice_get rs i ≡ Some r → IsOnlyForm (names_of lines) l r.statement

module _ (lines : List LineValue) where
  abbrev names : List (List ℕ)
  names = names_of lines

  -- by place, from one after another
  module _ (n : ℕ) (l : LineValue) (is : slice_get lines n ≡ Some l) (q : Reading) (rs : List Reading) where
    next_reading : IsReading names (before lines n) (length lines - (n + 1) == 0) l q → IsReadingAt lines n q
    next_reading reads =
        let within = slice_get_within lines n l is in
        let left : length lines - (n + 1) ≡ length lines - n - 1 = omega arith in
        let same : (length lines - (n + 1) == 0) ≡ (n + 1 == length lines) = ap (λ k. k == 0) left ∙ last_place (length lines) n within in
        record { line = l; is = is; reads = subst (λ b. IsReading names (before lines n) b l q) same reads }

    readings_push : IsReading names (before lines n) (length lines - (n + 1) == 0) l q → AreFirstReadings lines n rs → AreFirstReadings lines (n + 1) (rs ++ q ∷ [])
    readings_push reads before_it = record { many = length-append rs (q ∷ []) ∙ ap (λ k. k + 1) before_it.many; each = every } where
      every : (i : ℕ) (r : Reading) → slice_get (rs ++ q ∷ []) i ≡ Some r → IsReadingAt lines i r
      every i r there = elim (at_push rs q i r there) [
        | inl earlier ↦ before_it.each i r earlier
        | inr last ↦ subst (λ k. IsReadingAt lines k r) (sym (last.0 ∙ before_it.many)) (subst (IsReadingAt lines n) last.1 (next_reading reads))
      ]

    pub read_push : IsReading names (before lines n) (length lines - (n + 1) == 0) l q → IsOnlyForm names l q.statement → AreRead lines n rs → AreRead lines (n + 1) (rs ++ q ∷ [])
    read_push reads form before_it = record { readings = readings_push reads before_it.readings; only = every } where
      every : (i : ℕ) (k : LineValue) (r : Reading) → slice_get lines i ≡ Some k → slice_get (rs ++ q ∷ []) i ≡ Some r → IsOnlyForm names k r.statement
      every i k r line there = elim (at_push rs q i r there) [
        | inl earlier ↦ before_it.only i k r line earlier
        | inr last ↦
            let place : i ≡ n = last.0 ∙ before_it.readings.many in
            let same : l ≡ k = same_Some l k (sym is ∙ sym (ap (slice_get lines) place) ∙ line) in
            subst (λ x. IsOnlyForm names x r.statement) same (subst (λ x. IsOnlyForm names l x.statement) last.1 form)
      ]

  pub read_none : AreRead lines 0 []
  read_none = record {
    readings = record { many = refl; each = λ i r is. absurd (none-some r is) };
    only = λ i l r line is. absurd (none-some r is);
  }

  next_place : (n : ℕ) (l : LineValue) → slice_get lines n ≡ Some l → before lines (suc n) ≡ l ∷ before lines n
  next_place n l is =
      let one : suc n ≡ n + 1 = omega arith in
      ap (before lines) one ∙ before_more lines n l is

  step_by_place : (n : ℕ) (l : LineValue) → slice_get lines n ≡ Some l → ((qs : List Reading) → AreReadingsBefore names (length lines - n) (before lines n) qs → AreOnlyForms names (before lines n) qs → AreRead lines n (reverse qs))
      → (qs : List Reading) → AreReadingsBefore names (length lines - suc n) (l ∷ before lines n) qs → AreOnlyForms names (l ∷ before lines n) qs → AreRead lines (suc n) (reverse qs)
  step_by_place n l is rest [] h only = absurd h
  step_by_place n l is rest (q ∷ qs) h only =
      let within = slice_get_within lines n l is in
      let one : n + 1 ≡ suc n = omega arith in
      let count : length lines - suc n + 1 ≡ length lines - n = omega (arith, within) in
      let last : length lines - suc n ≡ length lines - (n + 1) = omega arith in
      let front = rest qs (subst (λ k. AreReadingsBefore names k (before lines n) qs) count h.1) only.1 in
      let reads : IsReading names (before lines n) (length lines - (n + 1) == 0) l q = subst (λ k. IsReading names (before lines n) (k == 0) l q) last h.0 in
      subst (λ rs. AreRead lines (suc n) rs) (sym (reverse_cons q qs))
      (subst (λ k. AreRead lines k (reverse qs ++ q ∷ [])) one (read_push n l is q (reverse qs) reads only.0 front))

  pub read_by_place : (n : ℕ) (qs : List Reading) → n ≤ length lines → AreReadingsBefore names (length lines - n) (before lines n) qs → AreOnlyForms names (before lines n) qs → AreRead lines n (reverse qs)
  read_by_place zero [] few h only = read_none
  read_by_place zero (q ∷ qs) few h only = absurd h
  read_by_place (suc n) qs few h only = elim ((slice_get_cases lines n).1) [
    | inl there ↦
        let next = next_place n there.0 there.2 in
        step_by_place n there.0 there.2 (λ ps. read_by_place n ps (omega (arith, few))) qs
        (subst (λ ls. AreReadingsBefore names (length lines - suc n) ls qs) next h) (subst (λ ls. AreOnlyForms names ls qs) next only)
    | inr past ↦ absurd (let none = past.0 in omega (arith, few, none))
  ]

  -- one after another, from their places
  front_readings : (n : ℕ) (rs : List Reading) (q : Reading) → AreFirstReadings lines (suc n) (rs ++ q ∷ []) → AreFirstReadings lines n rs
  front_readings n rs q h = record {
    many = (let all = h.many in omega (arith, all, length-append rs (q ∷ [])));
    each = λ i r there. h.each i r (slice_get_left rs (q ∷ []) i r there);
  }

  last_reading : (n : ℕ) (rs : List Reading) (q : Reading) → AreFirstReadings lines (suc n) (rs ++ q ∷ []) → IsReadingAt lines n q
  last_reading n rs q h =
      let many : length rs ≡ n = (let all = h.many in omega (arith, all, length-append rs (q ∷ []))) in
      subst (λ i. IsReadingAt lines i q) many (h.each (length rs) q (slice_get_seam rs q []))

  pub read_in_order : (n : ℕ) (qs : List Reading) → AreFirstReadings lines n (reverse qs) → AreReadingsBefore names (length lines - n) (before lines n) qs
  read_in_order zero [] h = tt
  read_in_order zero (q ∷ qs) h = absurd (let many = h.many in omega (arith, many, length-reverse (q ∷ qs)))
  read_in_order (suc n) [] h = absurd (let many = h.many in omega (arith, many, length-reverse {A = Reading} []))
  read_in_order (suc n) (q ∷ qs) h =
      let all : AreFirstReadings lines (suc n) (reverse qs ++ q ∷ []) = subst (AreFirstReadings lines (suc n)) (reverse_cons q qs) h in
      let last = last_reading n (reverse qs) q all in
      let within = slice_get_within lines n last.line last.is in
      let left : length lines - suc n ≡ length lines - n - 1 = omega arith in
      let same : (n + 1 == length lines) ≡ (length lines - suc n == 0) = sym (ap (λ k. k == 0) left ∙ last_place (length lines) n within) in
      let count : length lines - n ≡ length lines - suc n + 1 = omega (arith, within) in
      subst (λ ls. AreReadingsBefore names (length lines - suc n) ls (q ∷ qs)) (sym (next_place n last.line last.is))
      (subst (λ b. IsReading names (before lines n) b last.line q) same last.reads, subst (λ k. AreReadingsBefore names k (before lines n) qs) count (read_in_order n qs (front_readings n (reverse qs) q all)))

-- the first of the first
pub fewer : (lines : List LineValue) (n i : ℕ) (rs : List Reading) → i ≤ n → AreFirstReadings lines n rs → AreFirstReadings lines i (take i rs)
fewer lines n i rs few h = record {
  many = length-take-le i rs (let many = h.many in omega (arith, few, many));
  each = λ k r there. h.each k r (at_take rs i k r there);
}
