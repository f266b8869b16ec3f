-- Rows in one list, a row at a time.
use Rattle.std.proofs.Common.{◌≡◌, ℕ, ◌+◌, ◌-◌, ◌<◌, ◌≤◌, zero, suc, List, [], ◌∷◌, ◌++◌, length, get_or, take, drop, refl, sym, ap, subst, ◌∙◌, arith, length-append, length-take-le}
use Rattle.std.specs.List.{slice_index, slice_range}
use Rattle.std.proofs.Math.Seq.{drop-append_seam, take-length}
use Rattle.std.proofs.lemmas.List.{get_or_default, length-drop, take-append-le, drop-append-le}
use Rattle.std.proofs.lemmas.List.Sums.{sum_by-cons}
use Rattle.kc_graph.specs.Rows.{rows_from, rows_in, number_count, AreEnds}

-- the rows after the first one start where it ends
pub AreEnds-rest : (start end : ℕ) (ends : List ℕ) (n : ℕ) → AreEnds start (end ∷ ends) n → AreEnds end ends n
AreEnds-rest start end ends n a = record {
  ordered = λ i h. a.ordered (suc i) (omega arith);
  last = a.last;
}

-- and a row can come before others
pub AreEnds-cons : (start end : ℕ) (ends : List ℕ) (n : ℕ) → start ≤ end → AreEnds end ends n → AreEnds start (end ∷ ends) n
AreEnds-cons start end ends n first a = record {
  ordered = each;
  last = a.last;
}
  where
    each : (i : ℕ) → i < length (end ∷ ends) → slice_index (start ∷ end ∷ ends) i ≤ slice_index (end ∷ ends) i
    each zero h = first
    each (suc i) h = a.ordered i (omega arith)

pub first-ordered : (start end : ℕ) (ends : List ℕ) (n : ℕ) → AreEnds start (end ∷ ends) n → start ≤ end
first-ordered start end ends n a = a.ordered 0 (omega arith)

pub start-within : (start : ℕ) (ends : List ℕ) (n : ℕ) → AreEnds start ends n → start ≤ n
start-within start [] n a = let e : start ≡ n = a.last in omega arith
start-within start (end ∷ ends) n a =
    omega (arith, first-ordered start end ends n a, start-within end ends n (AreEnds-rest start end ends n a))

pub end-within : (start : ℕ) (ends : List ℕ) (n i : ℕ) → AreEnds start ends n → i < length ends → slice_index ends i ≤ n
end-within start [] n i a h = absurd (omega arith)
end-within start (end ∷ ends) n zero a h = start-within end ends n (AreEnds-rest start end ends n a)
end-within start (end ∷ ends) n (suc i) a h = end-within end ends n i (AreEnds-rest start end ends n a) (omega arith)

-- a row but the first starts where the one before it ends
pub start-later : (start : ℕ) (ends : List ℕ) (i d : ℕ) → 0 < i → i < length ends → slice_index (start ∷ ends) i ≡ get_or ends (i - 1) d
start-later start ends zero d some h = absurd (omega arith)
start-later start ends (suc i) d some h =
    let same : i ≡ suc i - 1 = omega arith in
    ap (λ k. get_or ends k 0) same ∙ get_or_default ends (suc i - 1) 0 d (omega arith)

-- a row is added after the others
pub AreEnds-push : (start : ℕ) (ends : List ℕ) (n m : ℕ) → n ≤ m → AreEnds start ends n → AreEnds start (ends ++ m ∷ []) m
AreEnds-push start [] n m h a =
    let e : start ≡ n = a.last in
    AreEnds-cons start m [] m (omega arith) (record { ordered = λ i k. absurd (omega arith); last = refl })
AreEnds-push start (end ∷ ends) n m h a =
    AreEnds-cons start end (ends ++ m ∷ []) m (first-ordered start end ends n a) (AreEnds-push end ends n m h (AreEnds-rest start end ends n a))

pub length-rows_from : {A : Type 0} (xs : List A) (start : ℕ) (ends : List ℕ) → length (rows_from xs start ends) ≡ length ends
length-rows_from xs start [] = refl
length-rows_from xs start (end ∷ ends) = ap suc (length-rows_from xs end ends)

-- a row goes from the end before it to its own
pub get_or-rows_from : {A : Type 0} (xs : List A) (start : ℕ) (ends : List ℕ) (i : ℕ) → i < length ends → get_or (rows_from xs start ends) i [] ≡ slice_range xs (slice_index (start ∷ ends) i) (slice_index ends i)
get_or-rows_from xs start [] i h = absurd (omega arith)
get_or-rows_from xs start (end ∷ ends) zero h = refl
get_or-rows_from xs start (end ∷ ends) (suc i) h = get_or-rows_from xs end ends i (omega arith)

module _ {A : Type 0} (xs more : List A) where
  range-append : (start end : ℕ) → start ≤ end → end ≤ length xs → slice_range (xs ++ more) start end ≡ slice_range xs start end
  range-append start end ordered within =
      let left = length-drop start xs in
      ap (take (end - start)) (drop-append-le start xs more (omega arith))
      ∙ take-append-le (end - start) (drop start xs) more (omega arith)

  last_row : (start : ℕ) → start ≡ length xs → slice_range (xs ++ more) start (length (xs ++ more)) ≡ more
  last_row start e =
      let all = length-append xs more in
      let count : length (xs ++ more) - length xs ≡ length more = omega arith in
      ap (λ s. slice_range (xs ++ more) s (length (xs ++ more))) e
      ∙ ap (take (length (xs ++ more) - length xs)) (drop-append_seam xs more)
      ∙ ap (λ n. take n more) count
      ∙ take-length more

  -- the rows with one more, whose elements come after the others
  pub rows_from-push : (start : ℕ) (ends : List ℕ) → AreEnds start ends (length xs) → rows_from (xs ++ more) start (ends ++ length (xs ++ more) ∷ []) ≡ rows_from xs start ends ++ more ∷ []
  rows_from-push start [] a = ap (λ r. r ∷ []) (last_row start a.last)
  rows_from-push start (end ∷ ends) a =
      let rest = AreEnds-rest start end ends (length xs) a in
      ap (λ r. r ∷ rows_from (xs ++ more) end (ends ++ length (xs ++ more) ∷ [])) (range-append start end (first-ordered start end ends (length xs) a) (start-within end ends (length xs) rest))
      ∙ ap (λ rs. slice_range xs start end ∷ rs) (rows_from-push end ends rest)

-- the rows hold all numbers from the start on
pub number_count-from : (numbers : List ℕ) (start : ℕ) (ends : List ℕ) → AreEnds start ends (length numbers) → number_count (rows_from numbers start ends) + start ≡ length numbers
number_count-from numbers start [] a = let e : start ≡ length numbers = a.last in omega (arith, e)
number_count-from numbers start (end ∷ ends) a =
    let rest = AreEnds-rest start end ends (length numbers) a in
    let ordered = first-ordered start end ends (length numbers) a in
    let within = start-within end ends (length numbers) rest in
    let left = length-drop start numbers in
    let long : length (slice_range numbers start end) ≡ end - start = length-take-le (end - start) (drop start numbers) (omega arith) in
    omega (arith, long, sum_by-cons (λ (row : List ℕ). length row) (slice_range numbers start end) (rows_from numbers end ends), number_count-from numbers end ends rest)

pub number_count-all : (numbers ends : List ℕ) → AreEnds 0 ends (length numbers) → number_count (rows_in numbers ends) ≡ length numbers
number_count-all numbers ends a = omega (arith, number_count-from numbers 0 ends a)

-- a row is added: what is known of the parts that it was made of
module _ (ends ends' numbers numbers' more : List ℕ) (a : AreEnds 0 ends (length numbers)) (added : numbers' ≡ numbers ++ more) (pushed : ends' ≡ ends ++ length numbers' ∷ []) where
  ends_are : ends' ≡ ends ++ length (numbers ++ more) ∷ []
  ends_are = pushed ∙ ap (λ (ns : List ℕ). ends ++ length ns ∷ []) added

  pub rows_in-added : rows_in numbers' ends' ≡ rows_in numbers ends ++ more ∷ []
  rows_in-added = ap (λ ns. rows_in ns ends') added ∙ ap (rows_in (numbers ++ more)) ends_are ∙ rows_from-push numbers more 0 ends a

  pub AreEnds-added : AreEnds 0 ends' (length numbers')
  AreEnds-added =
      let P : List ℕ → Type 0 = λ es. AreEnds 0 es (length numbers') in
      subst P (sym pushed) (AreEnds-push 0 ends (length numbers) (length numbers') (omega (arith, ap length added, length-append numbers more)) a)
