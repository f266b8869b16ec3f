-- The lines of a text, each cut off its front in turn.
use Rattle.std.proofs.Common.{◌≡◌, ◌==◌, ◌∙◌, ℕ, suc, ◌+◌, ◌<◌, Bool, true, false, not, cond, List, [], ◌∷◌, length, drop, get_or, slice_index, refl, ap, subst, sym, ⊎_elim, arith, add-zero, drop-drop, get_or-drop}
use Rattle.std.specs.List.{prefix_len, position_or_len, before_first, after_first, slice_split}
use Rattle.std.specs.Str.Lines.{lines, lines_of_parts, strip_carriage_return}
use Rattle.std.proofs.lemmas.Bool.{cases_eq}
use Rattle.std.proofs.lemmas.Bool.Decides.{nat_tests}
use Rattle.std.proofs.lemmas.List.Splits.{slice_split_first, slice_split_none, length-slice_split}
use Rattle.std.proofs.lemmas.List.Sums.{prefix_len-le-length, prefix_len_passes, prefix_len_stops}
use Rattle.kc_text.specs.Bytes.{is_feed}
use Rattle.kc_text.proofs.Runs.{prefix_len-yes, prefix_len-no}

parts-cons : (x : List ℕ) (parts : List (List ℕ)) → 0 < length parts → lines_of_parts (x ∷ parts) ≡ strip_carriage_return x ∷ lines_of_parts parts
parts-cons x [] some = absurd (omega (arith, some))
parts-cons x (y ∷ more) some = refl

-- a text with a line feed
pub lines-cut : (bs : List ℕ) → position_or_len is_feed bs < length bs → lines bs ≡ strip_carriage_return (before_first is_feed bs) ∷ lines (after_first is_feed bs)
lines-cut bs some =
    let parts = slice_split is_feed (after_first is_feed bs) in
    ap lines_of_parts (slice_split_first is_feed bs 0 some) ∙ parts-cons (before_first is_feed bs) parts (omega (arith, length-slice_split is_feed (after_first is_feed bs)))

-- a text that begins with a line feed
pub lines-empty : (bs : List ℕ) → lines (10 ∷ bs) ≡ [] ∷ lines bs
lines-empty bs = lines-cut (10 ∷ bs) (omega arith)

pub feed_is_ascii : (b : ℕ) → not (is_feed b) ≡ false → b < 128
feed_is_ascii b e = grind (arith, nat_tests)

-- behind the first line stands its end
pub stops_at_feed : (bs : List ℕ) → position_or_len is_feed bs < length bs → slice_index (drop (position_or_len is_feed bs) bs) 0 < 128
stops_at_feed bs inside =
    let n : ℕ = position_or_len is_feed bs in
    let e = get_or-drop n bs 0 0 ∙ ap (λ i. get_or bs i 0) (add-zero n) in
    subst (λ b. b < 128) (sym e) (feed_is_ascii _ (prefix_len_stops (λ b. not (is_feed b)) bs 0 inside))

is_not : (b : Bool) → not b ≡ true → b ≡ false
is_not true e = sym e
is_not false e = refl

-- a text without one is one line
pub lines-one : (bs : List ℕ) → position_or_len is_feed bs ≡ length bs → 0 < length bs → lines bs ≡ bs ∷ []
lines-one bs none some =
    let none_is : (length bs == 0) ≡ false = grind (arith, nat_tests) in
    let passes : (i : ℕ) (d : ℕ) → i < length bs → is_feed (get_or bs i d) ≡ false = λ i d h. is_not _ (prefix_len_passes (λ b. not (is_feed b)) bs i d (omega (arith, none, h))) in
    ap lines_of_parts (slice_split_none is_feed bs passes) ∙ ap (λ t. cond t [] (bs ∷ [])) none_is

-- bytes are at least one line
pub more_lines : (bs : List ℕ) → 0 < length bs → 0 < length (lines bs)
more_lines bs some =
    ⊎_elim
    (λ none. omega (arith, ap length (lines-one bs none some)))
    (λ stops. omega (arith, ap length (lines-cut bs (omega (arith, stops, prefix_len-le-length (λ b. not (is_feed b)) bs)))))
    (cases_eq (position_or_len is_feed bs) (length bs))

-- of the lines `all` so many were passed over, each of which passes a test, and behind them stands `l`
module _ (p : List ℕ → Bool) (all now ls : List (List ℕ)) (n : ℕ) (l : List ℕ) (count : prefix_len p all ≡ n + prefix_len p now) (behind : drop n all ≡ now) (cut : now ≡ l ∷ ls) where
  pub passes_over : p l ≡ true → prefix_len p all ≡ n + 1 + prefix_len p ls
  passes_over e =
      let one : prefix_len p now ≡ suc (prefix_len p ls) = ap (prefix_len p) cut ∙ prefix_len-yes p l ls e in
      omega (arith, count, one)

  pub stops_at : p l ≡ false → prefix_len p all ≡ n
  stops_at e =
      let none : prefix_len p now ≡ 0 = ap (prefix_len p) cut ∙ prefix_len-no p l ls e in
      omega (arith, count, none)

  pub behind_line : drop (n + 1) all ≡ ls
  behind_line = sym (drop-drop 1 n all) ∙ ap (drop 1) (behind ∙ cut)
