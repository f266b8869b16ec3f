-- The text of a line of a stream has no line feed, and neither has a word of a command that it spells.
use Rattle.std.proofs.Common.{◌≡◌, ◌⊎◌, ℕ, zero, suc, ◌-◌, ◌==◌, Bool, true, false, ◌||◌, cond, List, [], ◌∷◌, ◌++◌, length, take, drop, refl, sym, ap, ◌∙◌, subst, inl, inr, arith}
use Rattle.std.specs.List.{onto_first}
use Rattle.std.proofs.lemmas.Bool.{cases_Bool, or_parts}
use Rattle.std.proofs.lemmas.List.{length_push, take_at}
use Rattle.kc_session.specs.Stream.{carriage_return, ends_in, has_feed, is_ended, lines_of, text_of_line, without_last, without_return}
use Rattle.kc_session.specs.StreamCommands.{StreamCommand, commands_after, commands_of, lines_taken}
use Rattle.kc_session.proofs.Lines.{is_ended-push, is_ended-unended}

-- a text without a line feed, with one after it or without
abbrev pub IsPlain : List ℕ → Type 0
IsPlain line = (text : List ℕ) × (has_feed text ≡ false) × ((line ≡ text ++ 10 ∷ []) ⊎ (line ≡ text))

abbrev ArePlain : List (List ℕ) → Type 0
ArePlain [] = Unit {0}
ArePlain (l ∷ ls) = IsPlain l × ArePlain ls

-- ---- the lines of a stream
with_byte : (b : ℕ) → (b == 10) ≡ false → (l : List ℕ) → IsPlain l → IsPlain (b ∷ l)
with_byte b other l (text, none, inl is) = (b ∷ text, ap (λ v. v || has_feed text) other ∙ none, inl (ap (λ x. b ∷ x) is))
with_byte b other l (text, none, inr is) = (b ∷ text, ap (λ v. v || has_feed text) other ∙ none, inr (ap (λ x. b ∷ x) is))

onto_plain : (b : ℕ) → (b == 10) ≡ false → (ls : List (List ℕ)) → ArePlain ls → ArePlain (onto_first b ls)
onto_plain b other [] plain = (with_byte b other [] ([], refl, inr refl), tt)
onto_plain b other (l ∷ ls) plain = (with_byte b other l plain.0, plain.1)

lines_plain : (bytes : List ℕ) → ArePlain (lines_of bytes)
unfolding lines_of
lines_plain [] = tt
lines_plain (b ∷ bs) = go (b == 10) refl (lines_plain bs)
  where
    go : (v : Bool) → (b == 10) ≡ v → ArePlain (lines_of bs) → ArePlain (cond v ((10 ∷ []) ∷ lines_of bs) (onto_first b (lines_of bs)))
    go true e rest = (([], refl, inl refl), rest)
    go false e rest = onto_plain b e (lines_of bs) rest

-- ---- its commands
abbrev AreCommandsPlain : List StreamCommand → Type 0
AreCommandsPlain [] = Unit {0}
AreCommandsPlain (c ∷ cs) = IsPlain c.line × AreCommandsPlain cs

commands_plain : (k : ℕ) (ls : List (List ℕ)) → ArePlain ls → AreCommandsPlain (commands_after k ls)
unfolding commands_after
commands_plain k [] plain = tt
commands_plain zero (l ∷ ls) plain = (plain.0, commands_plain (lines_taken l) ls plain.1)
commands_plain (suc k) (l ∷ ls) plain = commands_plain k ls plain.1

pub first_plain : (bytes : List ℕ) (c : StreamCommand) (more : List StreamCommand) → commands_of bytes ≡ c ∷ more → IsPlain c.line
unfolding commands_of
first_plain bytes c more is = (subst AreCommandsPlain is (commands_plain 0 (lines_of bytes) (lines_plain bytes))).0

-- ---- the text of a line
feed_take : (n : ℕ) (text : List ℕ) → has_feed text ≡ false → has_feed (take n text) ≡ false
feed_take zero text none = refl
feed_take (suc n) [] none = refl
feed_take (suc n) (b ∷ bs) none =
    let parts = or_parts (b == 10) (has_feed bs) none in
    ap (λ v. v || has_feed (take n bs)) parts.0 ∙ feed_take n bs parts.1

pub feed_drop : (n : ℕ) (text : List ℕ) → has_feed text ≡ false → has_feed (drop n text) ≡ false
feed_drop zero text none = none
feed_drop (suc n) [] none = refl
feed_drop (suc n) (b ∷ bs) none = feed_drop n bs (or_parts (b == 10) (has_feed bs) none).1

feed_return : (text : List ℕ) → has_feed text ≡ false → has_feed (without_return text) ≡ false
feed_return text none =
    elim (cases_Bool (ends_in carriage_return text)) [
      | inl e ↦ rw e (feed_take (length text - 1) text none)
      | inr e ↦ rw e none
    ]

take_front : (text : List ℕ) (b : ℕ) → without_last (text ++ b ∷ []) ≡ text
take_front text b = take_at text (b ∷ []) (length (text ++ b ∷ []) - 1) (omega (arith, length_push text b))

pub text_plain : (line : List ℕ) → IsPlain line → has_feed (text_of_line line) ≡ false
unfolding text_of_line
text_plain line (text, none, inl is) =
    subst (λ l. has_feed (cond (is_ended l) (without_return (without_last l)) l) ≡ false) (sym is)
    (rw (is_ended-push text, take_front text 10) (feed_return text none))
text_plain line (text, none, inr is) =
    subst (λ l. has_feed (cond (is_ended l) (without_return (without_last l)) l) ≡ false) (sym is)
    (rw (is_ended-unended text none) none)
