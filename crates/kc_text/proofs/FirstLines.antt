-- The first line of a text, told without its end being looked for.
use Rattle.std.proofs.Common.{◌≡◌, ◌==◌, ◌∙◌, ◌||◌, ◌&&◌, ℕ, zero, suc, ◌-◌, ◌<◌, ◌≤◌, nat_le, nat_lt, Bool, true, false, not, if◌then◌else◌, List, [], ◌∷◌, length, length-drop, take, drop, get_or, fold, refl, ap, sym, ⊎_elim, arith}
use Rattle.std.specs.List.{prefix_len, position_or_len, before_first, after_first}
use Rattle.std.specs.Str.Lines.{lines, strip_carriage_return}
use Rattle.std.proofs.lemmas.Bool.{cases_eq}
use Rattle.std.proofs.lemmas.Bool.Decides.{nat_tests}
use Rattle.std.proofs.lemmas.List.{nil_from_length}
use Rattle.std.proofs.lemmas.List.Sums.{prefix_len-le-length}
use Rattle.kc_text.specs.Bytes.{is_blank, is_feed, begins_with, behind_blanks}
use Rattle.kc_text.specs.Help.{begins_with_end, column_after, first_indentation, first_of, indentation, is_blank_line, is_inside}
use Rattle.kc_text.proofs.PhysicalLines.{lines-cut, lines-one}
use Rattle.kc_text.proofs.Runs.{prefix_len-yes, prefix_len-no}

-- the first of the lines is that line
pub first_of-lines : (bs l : List ℕ) (ls : List (List ℕ)) → lines bs ≡ l ∷ ls → first_of bs ≡ l
first_of-lines [] l ls e = absurd (omega (arith, ap length e))
first_of-lines (b ∷ bs) l ls e =
    let n : ℕ = position_or_len is_feed (b ∷ bs) in
    let within = prefix_len-le-length (λ c. not (is_feed c)) (b ∷ bs) in
    ⊎_elim
    (λ none.
    let test : nat_lt n (length (b ∷ bs)) ≡ false = grind (arith, nat_tests) in
    ap (λ v. if v then strip_carriage_return (before_first is_feed (b ∷ bs)) else b ∷ bs) test ∙ ap (λ x. get_or x 0 []) (sym (lines-one (b ∷ bs) none (omega arith)) ∙ e))
    (λ stops.
    let inside : n < length (b ∷ bs) = omega (arith, stops, within) in
    let test : nat_lt n (length (b ∷ bs)) ≡ true = grind (arith, nat_tests) in
    ap (λ v. if v then strip_carriage_return (before_first is_feed (b ∷ bs)) else b ∷ bs) test ∙ ap (λ x. get_or x 0 []) (sym (lines-cut (b ∷ bs) inside) ∙ e))
    (cases_eq n (length (b ∷ bs)))

-- tests of numbers
lt-suc : (a b : ℕ) → nat_lt (suc a) (suc b) ≡ nat_lt a b
lt-suc a b =
    elim (nat_lt a b) as (λ v. nat_lt a b ≡ v → nat_lt (suc a) (suc b) ≡ v) [ true ↦ λ e. grind (arith, nat_tests) | false ↦ λ e. grind (arith, nat_tests) ] refl

eq-suc : (a b : ℕ) → (suc a == suc b) ≡ (a == b)
eq-suc a b = elim (a == b) as (λ v. (a == b) ≡ v → (suc a == suc b) ≡ v) [ true ↦ λ e. grind (arith, nat_tests) | false ↦ λ e. grind (arith, nat_tests) ] refl

lt-zero : (n : ℕ) → nat_lt 0 (suc n) ≡ true
lt-zero n = grind (arith, nat_tests)

zero-suc : (n : ℕ) → (0 == suc n) ≡ false
zero-suc n = grind (arith, nat_tests)

suc-zero : (n : ℕ) → (suc n == 0) ≡ false
suc-zero n = grind (arith, nat_tests)

strip-cons : (b : ℕ) (xs : List ℕ) → strip_carriage_return (b ∷ xs) ≡ (if get_or (b ∷ xs) (length xs) 0 == 13 then take (length xs) (b ∷ xs) else b ∷ xs)
strip-cons b xs =
    let last : length (b ∷ xs) - 1 ≡ length xs = omega arith in
    ap (λ n. if get_or (b ∷ xs) n 0 == 13 then take n (b ∷ xs) else b ∷ xs) last

strip-step : (b : ℕ) (xs : List ℕ) → (b == 13) ≡ false → strip_carriage_return (b ∷ xs) ≡ b ∷ strip_carriage_return xs
strip-step b [] e = ap (λ v. if v then [] else b ∷ []) e
strip-step b (y ∷ ys) e =
    strip-cons b (y ∷ ys)
    ∙ elim (get_or (y ∷ ys) (length ys) 0 == 13) as (λ v. (if v then b ∷ take (length ys) (y ∷ ys) else b ∷ y ∷ ys) ≡ b ∷ (if v then take (length ys) (y ∷ ys) else y ∷ ys)) [
      | true ↦ refl
      | false ↦ refl
    ]
    ∙ sym (ap (λ l. b ∷ l) (strip-cons y ys))

end-cons : (b : ℕ) (cs : List ℕ) → begins_with_end (b ∷ cs) ≡ (is_feed b || ((b == 13) && begins_with 10 cs))
end-cons b cs = ap (λ v. v || (is_feed b || ((b == 13) && begins_with 10 cs))) (suc-zero (length cs))

-- a byte that ends no line stands before the line that the rest begins with
first_of-step : (b : ℕ) (cs : List ℕ) → is_feed b ≡ false → (b == 13) ≡ false → first_of (b ∷ cs) ≡ b ∷ first_of cs
first_of-step b cs feed return =
    let n : ℕ = position_or_len is_feed cs in
    ap (λ k. if nat_lt k (suc (length cs)) then strip_carriage_return (take k (b ∷ cs)) else b ∷ cs) (prefix_len-yes (λ c. not (is_feed c)) b cs (ap not feed))
    ∙ ap (λ v. if v then strip_carriage_return (b ∷ take n cs) else b ∷ cs) (lt-suc n (length cs))
    ∙ ap (λ l. if nat_lt n (length cs) then l else b ∷ cs) (strip-step b (take n cs) return)
    ∙ elim (nat_lt n (length cs)) as (λ v. (if v then b ∷ strip_carriage_return (take n cs) else b ∷ cs) ≡ b ∷ (if v then strip_carriage_return (take n cs) else cs)) [
      | true ↦ refl
      | false ↦ refl
    ]

blank_no_feed : (b : ℕ) → is_blank b ≡ true → is_feed b ≡ false
blank_no_feed b e = grind (arith, nat_tests)

blank_no_return : (b : ℕ) → is_blank b ≡ true → (b == 13) ≡ false
blank_no_return b e = grind (arith, nat_tests)

first_of-blank : (b : ℕ) (cs : List ℕ) → is_blank b ≡ true → first_of (b ∷ cs) ≡ b ∷ first_of cs
first_of-blank b cs e = first_of-step b cs (blank_no_feed b e) (blank_no_return b e)

-- a text that begins with no blank has a first line that begins with none
no_blanks : (b : ℕ) (cs : List ℕ) → is_blank b ≡ false → (k : ℕ) → prefix_len is_blank (take k (b ∷ cs)) ≡ 0
no_blanks b cs e zero = refl
no_blanks b cs e (suc k) = prefix_len-no is_blank b (take k cs) e

no_blanks-strip : (b : ℕ) (cs : List ℕ) → is_blank b ≡ false → (k : ℕ) → prefix_len is_blank (strip_carriage_return (take k (b ∷ cs))) ≡ 0
no_blanks-strip b cs e zero = refl
no_blanks-strip b cs e (suc k) =
    let line = b ∷ take k cs in
    elim (get_or line (length line - 1) 0 == 13) as (λ v. prefix_len is_blank (if v then take (length line - 1) line else line) ≡ 0) [
      | true ↦ no_blanks b (take k cs) e (length line - 1)
      | false ↦ prefix_len-no is_blank b (take k cs) e
    ]

no_blanks-first : (b : ℕ) (cs : List ℕ) → is_blank b ≡ false → prefix_len is_blank (first_of (b ∷ cs)) ≡ 0
no_blanks-first b cs e =
    let n : ℕ = position_or_len is_feed (b ∷ cs) in
    elim (nat_lt n (length (b ∷ cs))) as (λ v. prefix_len is_blank (if v then strip_carriage_return (take n (b ∷ cs)) else b ∷ cs) ≡ 0) [
      | true ↦ no_blanks-strip b cs e n
      | false ↦ prefix_len-no is_blank b cs e
    ]

pub first_blanks : (bs : List ℕ) → prefix_len is_blank (first_of bs) ≡ prefix_len is_blank bs
first_blanks [] = refl
first_blanks (b ∷ cs) =
    elim (is_blank b) as (λ v. is_blank b ≡ v → prefix_len is_blank (first_of (b ∷ cs)) ≡ prefix_len is_blank (b ∷ cs)) [
      | true ↦ λ e.
          ap (prefix_len is_blank) (first_of-blank b cs e) ∙ prefix_len-yes is_blank b (first_of cs) e ∙ ap suc (first_blanks cs) ∙ sym (prefix_len-yes is_blank b cs e)
      | false ↦ λ e. no_blanks-first b cs e ∙ sym (prefix_len-no is_blank b cs e)
    ] refl

same_blanks : (bs : List ℕ) → take (prefix_len is_blank bs) (first_of bs) ≡ take (prefix_len is_blank bs) bs
same_blanks [] = refl
same_blanks (b ∷ cs) =
    elim (is_blank b) as (λ v. is_blank b ≡ v → take (prefix_len is_blank (b ∷ cs)) (first_of (b ∷ cs)) ≡ take (prefix_len is_blank (b ∷ cs)) (b ∷ cs)) [
      | true ↦ λ e.
          (λ i. take (prefix_len-yes is_blank b cs e i) (first_of-blank b cs e i)) ∙ ap (λ l. b ∷ l) (same_blanks cs)
          ∙ sym (ap (λ n. take n (b ∷ cs)) (prefix_len-yes is_blank b cs e))
      | false ↦ λ e. ap (λ n. take n (first_of (b ∷ cs))) (prefix_len-no is_blank b cs e) ∙ sym (ap (λ n. take n (b ∷ cs)) (prefix_len-no is_blank b cs e))
    ] refl

-- the indentation of the first line is that of the text
pub first_of-indentation : (bs : List ℕ) → indentation (first_of bs) ≡ indentation bs
first_of-indentation bs =
    ap (λ n. fold column_after 0 (take n (first_of bs))) (first_blanks bs) ∙ ap (fold column_after 0) (same_blanks bs)

-- a byte that is no blank: whether nothing stands before the end of its line
abbrev Ends : List ℕ → Type 0
Ends bs = (0 == length (first_of bs)) ≡ begins_with_end bs

ends-feed : (b : ℕ) (cs : List ℕ) → is_feed b ≡ true → Ends (b ∷ cs)
ends-feed b cs e =
    ap (λ k. 0 == length (if nat_lt k (suc (length cs)) then strip_carriage_return (take k (b ∷ cs)) else b ∷ cs)) (prefix_len-no (λ c. not (is_feed c)) b cs (ap not e))
    ∙ ap (λ v. 0 == length (if v then strip_carriage_return [] else b ∷ cs)) (lt-zero (length cs))
    ∙ sym (end-cons b cs ∙ ap (λ v. v || ((b == 13) && begins_with 10 cs)) e)

ends-other : (b : ℕ) (cs : List ℕ) → is_feed b ≡ false → (b == 13) ≡ false → Ends (b ∷ cs)
ends-other b cs feed return =
    ap (λ l. 0 == length l) (first_of-step b cs feed return) ∙ zero-suc (length (first_of cs))
    ∙ sym (end-cons b cs ∙ (λ i. feed i || (return i && begins_with 10 cs)))

strip-two : (b c : ℕ) (xs : List ℕ) → (0 == length (strip_carriage_return (b ∷ c ∷ xs))) ≡ false
strip-two b c xs =
    ap (λ l. 0 == length l) (strip-cons b (c ∷ xs))
    ∙ elim (get_or (c ∷ xs) (length xs) 0 == 13) as (λ v. (0 == length (if v then b ∷ take (length xs) (c ∷ xs) else b ∷ c ∷ xs)) ≡ false) [
      | true ↦ zero-suc (length (take (length xs) (c ∷ xs)))
      | false ↦ zero-suc (suc (length xs))
    ]

ends-return : (b : ℕ) (cs : List ℕ) → is_feed b ≡ false → (b == 13) ≡ true → Ends (b ∷ cs)
ends-return b [] feed return =
    ap (λ k. 0 == length (if nat_lt k 1 then strip_carriage_return (take k (b ∷ [])) else b ∷ [])) (prefix_len-yes (λ c. not (is_feed c)) b [] (ap not feed))
    ∙ sym (end-cons b [] ∙ (λ i. feed i || (return i && false)))
ends-return b (c ∷ ds) feed return =
    let long = suc (suc (length ds)) in
    let first = prefix_len-yes (λ x. not (is_feed x)) b (c ∷ ds) (ap not feed) in
    ap (λ k. 0 == length (if nat_lt k long then strip_carriage_return (take k (b ∷ c ∷ ds)) else b ∷ c ∷ ds)) first
    ∙ elim (is_feed c) as (λ v. is_feed c ≡ v
    → (0 == length (if nat_lt (suc (position_or_len is_feed (c ∷ ds))) long then strip_carriage_return (take (suc (position_or_len is_feed (c ∷ ds))) (b ∷ c ∷ ds)) else b ∷ c ∷ ds)) ≡ v) [
      | true ↦ λ e.
          ap (λ k. 0 == length (if nat_lt (suc k) long then strip_carriage_return (take (suc k) (b ∷ c ∷ ds)) else b ∷ c ∷ ds)) (prefix_len-no (λ x. not (is_feed x)) c ds (ap not e))
          ∙ ap (λ v. 0 == length (if v then strip_carriage_return (b ∷ []) else b ∷ c ∷ ds)) (lt-suc 0 (suc (length ds)) ∙ lt-zero (length ds))
          ∙ ap (λ v. 0 == length (if v then [] else b ∷ [])) return
      | false ↦ λ e.
          let n : ℕ = position_or_len is_feed ds in
          ap (λ k. 0 == length (if nat_lt (suc k) long then strip_carriage_return (take (suc k) (b ∷ c ∷ ds)) else b ∷ c ∷ ds)) (prefix_len-yes (λ x. not (is_feed x)) c ds (ap not e))
          ∙ ap (λ v. 0 == length (if v then strip_carriage_return (b ∷ c ∷ take n ds) else b ∷ c ∷ ds)) (lt-suc (suc n) (suc (length ds)) ∙ lt-suc n (length ds))
          ∙ elim (nat_lt n (length ds)) as (λ v. (0 == length (if v then strip_carriage_return (b ∷ c ∷ take n ds) else b ∷ c ∷ ds)) ≡ false) [
            | true ↦ strip-two b c (take n ds)
            | false ↦ zero-suc (suc (length ds))
          ]
    ] refl
    ∙ sym (end-cons b (c ∷ ds) ∙ (λ i. feed i || (return i && is_feed c)))

ends : (b : ℕ) (cs : List ℕ) → Ends (b ∷ cs)
ends b cs =
    elim (is_feed b) as (λ v. is_feed b ≡ v → Ends (b ∷ cs)) [
      | true ↦ λ feed. ends-feed b cs feed
      | false ↦ λ feed.
          elim (b == 13) as (λ v. (b == 13) ≡ v → Ends (b ∷ cs)) [ true ↦ λ return. ends-return b cs feed return | false ↦ λ return. ends-other b cs feed return ] refl
    ] refl

-- the first line has blanks alone where its end stands behind them
pub first_of-blank_line : (bs : List ℕ) → begins_with_end (behind_blanks bs) ≡ is_blank_line (first_of bs)
first_of-blank_line [] = refl
first_of-blank_line (b ∷ cs) =
    elim (is_blank b) as (λ v. is_blank b ≡ v → begins_with_end (behind_blanks (b ∷ cs)) ≡ is_blank_line (first_of (b ∷ cs))) [
      | true ↦ λ e.
          ap (λ n. begins_with_end (drop n (b ∷ cs))) (prefix_len-yes is_blank b cs e) ∙ first_of-blank_line cs
          ∙ sym (ap is_blank_line (first_of-blank b cs e) ∙ ap (λ n. n == suc (length (first_of cs))) (prefix_len-yes is_blank b (first_of cs) e)
          ∙ eq-suc (prefix_len is_blank (first_of cs)) (length (first_of cs)))
      | false ↦ λ e.
          ap (λ n. begins_with_end (drop n (b ∷ cs))) (prefix_len-no is_blank b cs e) ∙ sym (ends b cs)
          ∙ sym (ap (λ n. n == length (first_of (b ∷ cs))) (no_blanks-first b cs e))
    ] refl

-- the lines of a text that is not empty
lines_as : (bs l : List ℕ) (ls : List (List ℕ)) → lines bs ≡ l ∷ ls → (more : List (List ℕ)) × (lines bs ≡ first_of bs ∷ more)
lines_as bs l ls e = (ls, e ∙ ap (λ x. x ∷ ls) (sym (first_of-lines bs l ls e)))

lines_from-first : (bs : List ℕ) → 0 < length bs → (more : List (List ℕ)) × (lines bs ≡ first_of bs ∷ more)
lines_from-first bs some =
    ⊎_elim
    (λ none. lines_as bs bs [] (lines-one bs none some))
    (λ stops. lines_as bs (strip_carriage_return (before_first is_feed bs)) (lines (after_first is_feed bs))
    (lines-cut bs (omega (arith, stops, prefix_len-le-length (λ c. not (is_feed c)) bs))))
    (cases_eq (position_or_len is_feed bs) (length bs))

-- a first line that fails a test ends the run of lines that pass it
pub none_pass : (p : List ℕ → Bool) (bs : List ℕ) → 0 < length bs → p (first_of bs) ≡ false → prefix_len p (lines bs) ≡ 0
none_pass p bs some e =
    let found = lines_from-first bs some in
    ap (prefix_len p) found.1 ∙ prefix_len-no p (first_of bs) found.0 e

-- the indentation of the first of the lines, 0 without
pub indentation-lines : (bs : List ℕ) → indentation bs ≡ first_indentation (lines bs)
indentation-lines [] = refl
indentation-lines (b ∷ bs) =
    sym (first_of-indentation (b ∷ bs)) ∙ sym (ap first_indentation (lines_from-first (b ∷ bs) (omega arith)).1)

first_inside : (column : ℕ) (bs : List ℕ) → is_inside column (first_of bs) ≡ (begins_with_end (behind_blanks bs) || nat_le column (indentation bs))
first_inside column bs = λ i. sym (first_of-blank_line bs) i || nat_le column (first_of-indentation bs i)

or_true : (a b : Bool) → b ≡ true → true ≡ (a || b)
or_true true b e = refl
or_true false b e = sym e

or_false : (a b : Bool) → b ≡ false → a ≡ (a || b)
or_false true b e = refl
or_false false b e = sym e

-- the column behind the blanks of a text, and what stands there
module _ (column : ℕ) (bs : List ℕ) (i reached : ℕ) (column_is : reached ≡ fold column_after 0 (take i bs)) (ends_here : prefix_len is_blank bs ≡ i) where
  inside_at : (begins_with_end (behind_blanks bs) || nat_le column reached) ≡ is_inside column (first_of bs)
  inside_at =
      ap (λ k. begins_with_end (behind_blanks bs) || nat_le column k) (column_is ∙ ap (λ n. fold column_after 0 (take n bs)) (sym ends_here))
      ∙ sym (first_inside column bs)

  pub inside_far : nat_le column reached ≡ true → true ≡ is_inside column (first_of bs)
  inside_far far = or_true (begins_with_end (behind_blanks bs)) (nat_le column reached) far ∙ inside_at

  pub inside_near : nat_le column reached ≡ false → begins_with_end (behind_blanks bs) ≡ is_inside column (first_of bs)
  inside_near near = or_false (begins_with_end (behind_blanks bs)) (nat_le column reached) near ∙ inside_at

-- a text of blanks alone
pub inside_blanks : (column : ℕ) (bs : List ℕ) → length bs ≤ prefix_len is_blank bs → true ≡ is_inside column (first_of bs)
inside_blanks column bs all =
    let none : behind_blanks bs ≡ [] = nil_from_length (behind_blanks bs) (omega (arith, all, length-drop (prefix_len is_blank bs) bs)) in
    sym (first_inside column bs ∙ ap (λ l. begins_with_end l || nat_le column (indentation bs)) none)
