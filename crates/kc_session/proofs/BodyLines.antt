-- The lines of a body, each cut off its front in turn.
use Rattle.std.proofs.Common.{◌≡◌, ℕ, suc, ◌+◌, ◌<◌, ◌≤◌, ◌==◌, Bool, true, false, not, ◌||◌, List, [], ◌∷◌, ◌++◌, length, take, drop, if◌then◌else◌, refl, sym, ap, subst, ◌∙◌, one-add, arith}
use Rattle.std.specs.List.{position_or_len, onto_first}
use Rattle.std.proofs.lemmas.Bool.{eqb-true, cond-false, cond-true}
use Rattle.kc_files.specs.ConfigLines.{is_feed}
use Rattle.kc_session.specs.Stream.{has_feed, lines_of}
use Rattle.kc_session.proofs.Lines.{IsLastLine-unended}

at_feed : (b : ℕ) (bs : List ℕ) → is_feed b ≡ true → position_or_len is_feed (b ∷ bs) ≡ 0
at_feed b bs e = ap (λ v. if not v then 1 + position_or_len is_feed bs else 0) e

past_feed : (b : ℕ) (bs : List ℕ) → is_feed b ≡ false → position_or_len is_feed (b ∷ bs) ≡ suc (position_or_len is_feed bs)
past_feed b bs e = ap (λ v. if not v then 1 + position_or_len is_feed bs else 0) e ∙ one-add (position_or_len is_feed bs)

-- a line with its line feed stands before the rest
cut_at : (text : List ℕ) → position_or_len is_feed text < length text
    → lines_of text ≡ take (suc (position_or_len is_feed text)) text ∷ lines_of (drop (suc (position_or_len is_feed text)) text)
unfolding lines_of
cut_at [] h = absurd (omega (arith, h))
cut_at (b ∷ bs) h = go (is_feed b) refl (cut_at bs)
  where
    Is : ℕ → Type 0
    Is n = lines_of (b ∷ bs) ≡ take (suc n) (b ∷ bs) ∷ lines_of (drop (suc n) (b ∷ bs))

    go : (v : Bool) → is_feed b ≡ v
        → (position_or_len is_feed bs < length bs → lines_of bs ≡ take (suc (position_or_len is_feed bs)) bs ∷ lines_of (drop (suc (position_or_len is_feed bs)) bs))
        → Is (position_or_len is_feed (b ∷ bs))
    go true e more =
        subst Is (sym (at_feed b bs e))
        (cond-true (b == 10) _ _ e ∙ ap (λ x. (x ∷ []) ∷ lines_of bs) (sym (eqb-true b 10 e)))
    go false e more =
        subst Is (sym (past_feed b bs e))
        (cond-false (b == 10) _ _ e ∙ ap (onto_first b) (more (omega (arith, h, past_feed b bs e))))

pub no_feed : (text : List ℕ) → length text ≤ position_or_len is_feed text → has_feed text ≡ false
no_feed [] h = refl
no_feed (b ∷ bs) h = go (is_feed b) refl (no_feed bs)
  where
    go : (v : Bool) → is_feed b ≡ v → (length bs ≤ position_or_len is_feed bs → has_feed bs ≡ false) → has_feed (b ∷ bs) ≡ false
    go true e more = absurd (omega (arith, h, at_feed b bs e))
    go false e more = ap (λ v. v || has_feed bs) e ∙ more (omega (arith, h, past_feed b bs e))

-- before the first line feed there is none, and there is one at its place
pub before_feed : (text : List ℕ) → has_feed (take (position_or_len is_feed text) text) ≡ false
before_feed [] = refl
before_feed (b ∷ bs) = go (is_feed b) refl (before_feed bs)
  where
    Is : ℕ → Type 0
    Is n = has_feed (take n (b ∷ bs)) ≡ false

    go : (v : Bool) → is_feed b ≡ v → has_feed (take (position_or_len is_feed bs) bs) ≡ false → Is (position_or_len is_feed (b ∷ bs))
    go true e more = subst Is (sym (at_feed b bs e)) refl
    go false e more = subst Is (sym (past_feed b bs e)) (ap (λ v. v || has_feed (take (position_or_len is_feed bs) bs)) e ∙ more)

with_feed : (text : List ℕ) → position_or_len is_feed text < length text
    → take (suc (position_or_len is_feed text)) text ≡ take (position_or_len is_feed text) text ++ 10 ∷ []
with_feed [] h = absurd (omega (arith, h))
with_feed (b ∷ bs) h = go (is_feed b) refl (with_feed bs)
  where
    Is : ℕ → Type 0
    Is n = take (suc n) (b ∷ bs) ≡ take n (b ∷ bs) ++ 10 ∷ []

    go : (v : Bool) → is_feed b ≡ v
        → (position_or_len is_feed bs < length bs → take (suc (position_or_len is_feed bs)) bs ≡ take (position_or_len is_feed bs) bs ++ 10 ∷ [])
        → Is (position_or_len is_feed (b ∷ bs))
    go true e more = subst Is (sym (at_feed b bs e)) (ap (λ x. x ∷ []) (eqb-true b 10 e))
    go false e more = subst Is (sym (past_feed b bs e)) (ap (λ xs. b ∷ xs) (more (omega (arith, h, past_feed b bs e))))

pub up_to_feed : (text : List ℕ) (n : ℕ) → n ≡ position_or_len is_feed text → n < length text → take (n + 1) text ≡ take (position_or_len is_feed text) text ++ 10 ∷ []
up_to_feed text n at inside =
    let one : n + 1 ≡ suc (position_or_len is_feed text) = omega (arith, at) in
    ap (λ k. take k text) one ∙ with_feed text (omega (arith, at, inside))

pub first_cut : (text line behind : List ℕ) (n : ℕ) → n ≡ position_or_len is_feed text → n < length text → line ≡ take (n + 1) text → behind ≡ drop (n + 1) text
    → lines_of text ≡ line ∷ lines_of behind
first_cut text line behind n at inside front back =
    let same : suc (position_or_len is_feed text) ≡ n + 1 = omega (arith, at) in
    cut_at text (omega (arith, at, inside))
    ∙ ap (λ k. take k text ∷ lines_of (drop k text)) same
    ∙ (λ i. sym front i ∷ lines_of (sym back i))

alone : (text : List ℕ) → 0 < length text → has_feed text ≡ false → lines_of text ≡ text ∷ []
alone [] some h = absurd (omega (arith, some))
alone (b ∷ bs) some h = (IsLastLine-unended b bs h).only

pub lines_of-nil : lines_of [] ≡ []
unfolding lines_of
lines_of-nil = refl

pub only_line : (text : List ℕ) (n : ℕ) → 0 < length text → n ≡ position_or_len is_feed text → length text ≤ n → lines_of text ≡ text ∷ lines_of []
only_line text n some at past =
    alone text some (no_feed text (omega (arith, at, past))) ∙ ap (λ ls. text ∷ ls) (sym lines_of-nil)
