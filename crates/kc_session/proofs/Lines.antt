-- How a stream is cut into lines: one line after another.
use Rattle.std.proofs.Common.{◌≡◌, ℕ, ◌+◌, ◌-◌, ◌≤◌, ◌==◌, true, false, List, [], ◌∷◌, ◌++◌, length, get_or, refl, ap, ◌∙◌, inl, inr, arith}
use Rattle.std.specs.List.{onto_first}
use Rattle.std.proofs.lemmas.Bool.{or_parts, cases_Bool, both_ways, cond-false}
use Rattle.std.proofs.lemmas.List.{length_push, get_or_push, length-take}
use Rattle.std.proofs.lemmas.List.Folds.{list_any_at}
use Rattle.kc_session.specs.Stream.{has_feed, is_ended, lines_of, text_of_line, ends_in, without_last, without_return, carriage_return}
use Rattle.kc_session.specs.NextLine.{IsEndedLine, IsLastLine}

-- a byte that is no line feed goes onto the first line of the rest
pub lines_of-cons : (b : ℕ) (bs : List ℕ) → (b == 10) ≡ false → lines_of (b ∷ bs) ≡ onto_first b (lines_of bs)
unfolding lines_of
lines_of-cons b bs h = cond-false (b == 10) _ _ h

-- a text without a line feed and then a line feed are the first line
lines_of-ended : (text more : List ℕ) → has_feed text ≡ false → lines_of ((text ++ 10 ∷ []) ++ more) ≡ (text ++ 10 ∷ []) ∷ lines_of more
unfolding lines_of
lines_of-ended [] more h = refl
lines_of-ended (b ∷ bs) more h =
    let parts = or_parts (b == 10) (has_feed bs) h in
    lines_of-cons b ((bs ++ 10 ∷ []) ++ more) parts.0 ∙ ap (onto_first b) (lines_of-ended bs more parts.1)

-- bytes without a line feed are one line
lines_of-unended : (b : ℕ) (bs : List ℕ) → has_feed (b ∷ bs) ≡ false → lines_of (b ∷ bs) ≡ (b ∷ bs) ∷ []
unfolding lines_of
lines_of-unended b [] h = lines_of-cons b [] (or_parts (b == 10) false h).0
lines_of-unended b (c ∷ cs) h =
    let parts = or_parts (b == 10) (has_feed (c ∷ cs)) h in
    lines_of-cons b (c ∷ cs) parts.0 ∙ ap (onto_first b) (lines_of-unended c cs parts.1)

-- the last byte of a text and one more is that byte
last_byte-push : (text : List ℕ) (b : ℕ) → get_or (text ++ b ∷ []) (length (text ++ b ∷ []) - 1) 0 ≡ b
last_byte-push text b =
    get_or_push text b 0 (length (text ++ b ∷ []) - 1) (omega (arith, length_push text b))

pub is_ended-push : (text : List ℕ) → is_ended (text ++ 10 ∷ []) ≡ true
is_ended-push text = ap (λ b. b == 10) (last_byte-push text 10)

-- bytes without a line feed have none at their end
pub is_ended-unended : (bytes : List ℕ) → has_feed bytes ≡ false → is_ended bytes ≡ false
is_ended-unended [] h = refl
is_ended-unended (b ∷ bs) h =
    elim (cases_Bool (is_ended (b ∷ bs))) [
      | inl e ↦ absurd (both_ways _ h (list_any_at (λ x. x == 10) (b ∷ bs) (length (b ∷ bs) - 1) 0 (omega arith) e))
      | inr e ↦ e
    ]

pub IsEndedLine-push : (text : List ℕ) → has_feed text ≡ false → IsEndedLine (text ++ 10 ∷ [])
IsEndedLine-push text h = record { first = λ more. lines_of-ended text more h; ended = is_ended-push text }

pub IsLastLine-unended : (b : ℕ) (bs : List ℕ) → has_feed (b ∷ bs) ≡ false → IsLastLine (b ∷ bs)
IsLastLine-unended b bs h = record { only = lines_of-unended b bs h; unended = is_ended-unended (b ∷ bs) h }

-- a line end has two bytes at most
length-without_last : (bytes : List ℕ) → length bytes ≤ length (without_last bytes) + 1
length-without_last bytes = omega (arith, length-take (length bytes - 1) bytes)

length-without_return : (text : List ℕ) → length text ≤ length (without_return text) + 1
length-without_return text =
    elim (cases_Bool (ends_in carriage_return text)) [
      | inl e ↦ rw e (length-without_last text)
      | inr e ↦ rw e (omega arith)
    ]

pub length-text_of_line : (line : List ℕ) → length line ≤ length (text_of_line line) + 2
unfolding text_of_line
length-text_of_line line =
    elim (cases_Bool (is_ended line)) [
      | inl e ↦ rw e (omega (arith, length-without_last line, length-without_return (without_last line)))
      | inr e ↦ rw e (omega arith)
    ]
