-- Lines of a body that are cut off its front together: none of them is too long where all of them are not.
use Rattle.std.proofs.Common.{◌≡◌, ℕ, zero, suc, ◌+◌, ◌-◌, ◌<◌, ◌≤◌, ◌==◌, Bool, true, false, ◌&&◌, List, [], ◌∷◌, ◌++◌, length, take, drop, get_or, refl, sym, ap, ◌∙◌, inl, inr, arith}
use Rattle.std.specs.Prelude.{nat_le}
use Rattle.std.specs.List.{list_all, onto_first}
use Rattle.std.proofs.Math.Seq.{take-suc}
use Rattle.std.proofs.lemmas.Bool.{and_parts, and_from, cases_Bool, cond-true, le-leb, leb-true}
use Rattle.std.proofs.lemmas.List.{length-take, take-append-drop}
use Rattle.std.proofs.lemmas.List.Folds.{list_all-append}
use Rattle.kc_session.specs.Stream.{fits_line, is_ended, line_limit, lines_of, text_of_line, without_last, without_return, ends_in, carriage_return}
use Rattle.kc_session.proofs.BodyLines.{lines_of-nil}
use Rattle.kc_session.proofs.Lines.{lines_of-cons}

-- ---- lines within a number of bytes
abbrev are_within : ℕ → List (List ℕ) → Bool
are_within n lines = list_all (λ line. nat_le (length line) n) lines

within_more : (n : ℕ) (lines : List (List ℕ)) → are_within n lines ≡ true → are_within (suc n) lines ≡ true
within_more n [] h = refl
within_more n (l ∷ ls) h =
    let parts = and_parts (nat_le (length l) n) (are_within n ls) h in
    and_from (nat_le (length l) (suc n)) (are_within (suc n) ls) (le-leb (length l) (suc n) (omega (arith, leb-true (length l) n parts.0))) (within_more n ls parts.1)

within_onto : (n b : ℕ) (lines : List (List ℕ)) → are_within n lines ≡ true → are_within (suc n) (onto_first b lines) ≡ true
within_onto n b [] h = and_from (nat_le 1 (suc n)) true (le-leb 1 (suc n) (omega arith)) refl
within_onto n b (l ∷ ls) h =
    let parts = and_parts (nat_le (length l) n) (are_within n ls) h in
    and_from (nat_le (length (b ∷ l)) (suc n)) (are_within (suc n) ls) (le-leb (length (b ∷ l)) (suc n) (omega (arith, leb-true (length l) n parts.0))) (within_more n ls parts.1)

lines_of-feed : (b : ℕ) (bs : List ℕ) → (b == 10) ≡ true → lines_of (b ∷ bs) ≡ (10 ∷ []) ∷ lines_of bs
unfolding lines_of
lines_of-feed b bs h = cond-true (b == 10) _ _ h

lines_within : (n : ℕ) (text : List ℕ) → length text ≤ n → are_within n (lines_of text) ≡ true
lines_within n [] h = ap (are_within n) lines_of-nil
lines_within zero (b ∷ bs) h = absurd (omega (arith, h))
lines_within (suc n) (b ∷ bs) h =
    let more = lines_within n bs (omega (arith, h)) in
    elim (cases_Bool (b == 10)) [
      | inl e ↦
          ap (are_within (suc n)) (lines_of-feed b bs e)
          ∙ and_from (nat_le 1 (suc n)) (are_within (suc n) (lines_of bs)) (le-leb 1 (suc n) (omega arith)) (within_more n (lines_of bs) more)
      | inr e ↦ ap (are_within (suc n)) (lines_of-cons b bs e) ∙ within_onto n b (lines_of bs) more
    ]

without_last-shorter : (text : List ℕ) → length (without_last text) ≤ length text
without_last-shorter text = omega (arith, length-take (length text - 1) text)

text-shorter : (line : List ℕ) → length (text_of_line line) ≤ length line
unfolding text_of_line
text-shorter line =
    elim (cases_Bool (is_ended line)) [
      | inl e ↦ rw e (returned (without_last line) (without_last-shorter line))
      | inr e ↦ rw e (omega arith)
    ]
  where
    returned : (text : List ℕ) → length text ≤ length line → length (without_return text) ≤ length line
    returned text h =
        elim (cases_Bool (ends_in carriage_return text)) [
          | inl e ↦ rw e (omega (arith, h, without_last-shorter text))
          | inr e ↦ rw e h
        ]

short_fits : (line : List ℕ) → length line ≤ line_limit → fits_line line ≡ true
short_fits line h = le-leb (length (text_of_line line)) line_limit (omega (arith, h, text-shorter line))

within_fit : (lines : List (List ℕ)) → are_within line_limit lines ≡ true → list_all fits_line lines ≡ true
within_fit [] h = refl
within_fit (l ∷ ls) h =
    let parts = and_parts (nat_le (length l) line_limit) (are_within line_limit ls) h in
    and_from (fits_line l) (list_all fits_line ls) (short_fits l (leb-true (length l) line_limit parts.0)) (within_fit ls parts.1)

-- no line of a text is too long that is no longer than a line may be
pub short_text_fits : (text : List ℕ) → length text ≤ line_limit → list_all fits_line (lines_of text) ≡ true
short_text_fits text h = within_fit (lines_of text) (lines_within line_limit text h)

-- ---- lines that end in a line feed, and what follows them
-- a text has a line, and one byte more goes onto it whatever follows
onto_front : (b c : ℕ) (text : List ℕ) (more : List (List ℕ)) → onto_first b (lines_of (c ∷ text) ++ more) ≡ onto_first b (lines_of (c ∷ text)) ++ more
onto_front b c text more =
    elim (cases_Bool (c == 10)) [
      | inl e ↦ ap (λ ls. onto_first b (ls ++ more)) (lines_of-feed c text e) ∙ ap (λ ls. onto_first b ls ++ more) (sym (lines_of-feed c text e))
      | inr e ↦ ap (λ ls. onto_first b (ls ++ more)) (lines_of-cons c text e) ∙ onto_two (lines_of text) ∙ ap (λ ls. onto_first b ls ++ more) (sym (lines_of-cons c text e))
    ]
  where
    onto_two : (ls : List (List ℕ)) → onto_first b (onto_first c ls ++ more) ≡ onto_first b (onto_first c ls) ++ more
    onto_two [] = refl
    onto_two (l ∷ ls) = refl

lines_of-append : (text more : List ℕ) → lines_of ((text ++ 10 ∷ []) ++ more) ≡ lines_of (text ++ 10 ∷ []) ++ lines_of more
lines_of-append [] more = lines_of-feed 10 more refl ∙ ap (λ ls. ls ++ lines_of more) (sym (lines_of-feed 10 [] refl ∙ ap (λ ls. (10 ∷ []) ∷ ls) lines_of-nil))
lines_of-append (b ∷ bs) more =
    let rest = lines_of-append bs more in
    elim (cases_Bool (b == 10)) [
      | inl e ↦
          lines_of-feed b ((bs ++ 10 ∷ []) ++ more) e
          ∙ ap (λ ls. (10 ∷ []) ∷ ls) rest
          ∙ ap (λ ls. ls ++ lines_of more) (sym (lines_of-feed b (bs ++ 10 ∷ []) e))
      | inr e ↦
          lines_of-cons b ((bs ++ 10 ∷ []) ++ more) e
          ∙ ap (onto_first b) rest
          ∙ onto_any bs
          ∙ ap (λ ls. ls ++ lines_of more) (sym (lines_of-cons b (bs ++ 10 ∷ []) e))
    ]
  where
    onto_any : (cs : List ℕ) → onto_first b (lines_of (cs ++ 10 ∷ []) ++ lines_of more) ≡ onto_first b (lines_of (cs ++ 10 ∷ [])) ++ lines_of more
    onto_any [] = onto_front b 10 [] (lines_of more)
    onto_any (c ∷ cs) = onto_front b c (cs ++ 10 ∷ []) (lines_of more)

-- the lines up to a line feed within as many bytes as a line may have
pub first_fit : (text lines after : List ℕ) (last : ℕ) → last < line_limit → last < length text → get_or text last 0 ≡ 10 → lines ≡ take (last + 1) text → after ≡ drop (last + 1) text
    → list_all fits_line (lines_of text) ≡ (fits_line lines && list_all fits_line (lines_of after))
first_fit text lines after last within inside feed front back =
    let whole : take (last + 1) text ++ drop (last + 1) text ≡ text = take-append-drop (last + 1) text in
    let one : suc last ≡ last + 1 = omega arith in
    let ended : take (last + 1) text ≡ take last text ++ 10 ∷ [] = ap (λ n. take n text) (sym one) ∙ take-suc text last 0 inside ∙ ap (λ b. take last text ++ b ∷ []) feed in
    let cut : lines_of text ≡ lines_of (take (last + 1) text) ++ lines_of (drop (last + 1) text) =
    ap lines_of (sym whole ∙ ap (λ ls. ls ++ drop (last + 1) text) ended)
    ∙ lines_of-append (take last text) (drop (last + 1) text)
    ∙ ap (λ ls. lines_of ls ++ lines_of (drop (last + 1) text)) (sym ended) in
    let short : length (take (last + 1) text) ≤ line_limit = omega (arith, within, length-take (last + 1) text) in
    ap (list_all fits_line) cut
    ∙ list_all-append fits_line (lines_of (take (last + 1) text)) (lines_of (drop (last + 1) text))
    ∙ ap (λ b. b && list_all fits_line (lines_of (drop (last + 1) text))) (short_text_fits (take (last + 1) text) short ∙ sym (short_fits (take (last + 1) text) short))
    ∙ (λ i. fits_line (sym front i) && list_all fits_line (lines_of (sym back i)))

-- the first line alone
pub one_fits : (text line after : List ℕ) → lines_of text ≡ line ∷ lines_of after
    → list_all fits_line (lines_of text) ≡ (fits_line line && list_all fits_line (lines_of after))
one_fits text line after cut = ap (list_all fits_line) cut

-- ---- a step of the loop over them
pub fit_after : (text lines after : List ℕ) → list_all fits_line (lines_of text) ≡ (fits_line lines && list_all fits_line (lines_of after)) → fits_line lines ≡ true
    → list_all fits_line (lines_of text) ≡ list_all fits_line (lines_of after)
fit_after text lines after cut fits = cut ∙ ap (λ b. b && list_all fits_line (lines_of after)) fits

pub first_is_long : (text lines after : List ℕ) → list_all fits_line (lines_of text) ≡ (fits_line lines && list_all fits_line (lines_of after)) → fits_line lines ≡ false
    → list_all fits_line (lines_of text) ≡ false
first_is_long text lines after cut long = cut ∙ ap (λ b. b && list_all fits_line (lines_of after)) long
