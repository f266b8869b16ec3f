-- What the line buffer keeps of a line, a part at a time, and that it keeps the text of each line that fits.
use Rattle.std.proofs.Common.{◌≡◌, ℕ, zero, suc, ◌+◌, ◌-◌, ◌<◌, ◌≤◌, Bool, true, false, List, [], ◌∷◌, ◌++◌, length, take, refl, sym, ap, ◌∙◌, inl, inr, arith, None, Some, cond, append-nil}
use Rattle.std.proofs.lemmas.Bool.{cases_lt, le-ltb, lt-ltb, lt-leb, cond-false}
use Rattle.std.proofs.lemmas.List.{length-append, length-take, take_all}
use Rattle.kc_session.specs.Stream.{line_limit, text_of_line, fits_line, text_if_fits}
use Rattle.kc_session.specs.Held.{HeldLine, line_room, held_of, text_held, line_held}
use Rattle.kc_session.proofs.Lines.{length-text_of_line}

-- two equal parts make equal values
held_line : (kept others : List ℕ) (is_cut was_cut : Bool) → kept ≡ others → is_cut ≡ was_cut
    → let held : HeldLine = record { kept = kept; is_cut = is_cut } in held ≡ record { kept = others; is_cut = was_cut }
held_line kept others is_cut was_cut e f = cc

-- a line for which there is room is kept as it is
pub held_of-short : (line : List ℕ) → length line ≤ line_room → held_of line ≡ record { kept = line; is_cut = false }
unfolding held_of
held_of-short line h = held_line _ _ _ _ (take_all line_room line h) (le-ltb line_room (length line) h)

-- of a longer one the first bytes are kept
held_of-long : (line : List ℕ) → line_room < length line → held_of line ≡ record { kept = take line_room line; is_cut = true }
unfolding held_of
held_of-long line h = held_line _ _ _ _ refl (lt-ltb line_room (length line) h)

kept-held_of : (line : List ℕ) → (held_of line).kept ≡ take line_room line
unfolding held_of
kept-held_of line = refl

-- nothing of a line yet
pub held_of-nil : (held : HeldLine) → held.kept ≡ [] → held.is_cut ≡ false → held ≡ held_of []
held_of-nil held none whole = held_line _ _ _ _ none whole ∙ sym (held_of-short [] (omega arith))

-- more bytes, where there is room
pub held_of-push : (held pushed : HeldLine) (line more : List ℕ) → held ≡ held_of line → length held.kept + length more ≤ line_room
    → pushed.kept ≡ held.kept ++ more → pushed.is_cut ≡ held.is_cut → pushed ≡ held_of (line ++ more)
held_of-push held pushed line [] e room grown whole =
    held_line _ _ _ _ (grown ∙ append-nil held.kept) whole ∙ e ∙ ap held_of (sym (append-nil line))
held_of-push held pushed line (b ∷ bs) e room grown whole =
    let kept : held.kept ≡ take line_room line = ap (λ h. h.kept) e ∙ kept-held_of line in
    let short : length line < line_room = omega (arith, room, ap length kept, length-take line_room line) in
    let same : held ≡ record { kept = line; is_cut = false } = e ∙ held_of-short line (omega arith) in
    let all : length (line ++ b ∷ bs) ≤ line_room = omega (arith, room, ap (λ h. length h.kept) same, length-append line (b ∷ bs)) in
    held_line _ _ _ _ (grown ∙ ap (λ h. h.kept ++ b ∷ bs) same) (whole ∙ ap (λ h. h.is_cut) same)
    ∙ sym (held_of-short (line ++ b ∷ bs) all)

-- the first of two lists, and of the other what there is room for
take-both : (n : ℕ) (xs ys : List ℕ) → take n (xs ++ ys) ≡ take n xs ++ take (n - length (take n xs)) ys
take-both zero xs ys = refl
take-both (suc n) [] ys = let whole : suc n ≡ suc n - 0 = omega arith in ap (λ k. take k ys) whole
take-both (suc n) (x ∷ xs) ys =
    let left : n - length (take n xs) ≡ suc n - length (x ∷ take n xs) = omega arith in
    ap (λ zs. x ∷ zs) (take-both n xs ys ∙ ap (λ k. take n xs ++ take k ys) left)

-- more bytes, where there is not room for all of them
pub held_of-full : (held cut : HeldLine) (line more : List ℕ) (room : ℕ) → held ≡ held_of line → room ≡ line_room - length held.kept → room < length more
    → cut.kept ≡ held.kept ++ take room more → cut.is_cut ≡ true → cut ≡ held_of (line ++ more)
held_of-full held cut line more room e rest few grown is_cut =
    let kept : held.kept ≡ take line_room line = ap (λ h. h.kept) e ∙ kept-held_of line in
    let long : line_room < length (line ++ more) = omega (arith, rest, few, ap length kept, length-take line_room line, length-append line more) in
    held_line _ _ _ _
    (grown ∙ ap (λ n. held.kept ++ take n more) rest
    ∙ ap (λ xs. xs ++ take (line_room - length xs) more) kept
    ∙ sym (take-both line_room line more)) is_cut
    ∙ sym (held_of-long (line ++ more) long)

-- a buffer without a byte holds a line without a byte, and no other
pub held_of-empty : (held : HeldLine) (line : List ℕ) → held ≡ held_of line → length held.kept ≡ 0 → line ≡ []
held_of-empty held [] e none = refl
held_of-empty held (b ∷ bs) e none =
    let kept : held.kept ≡ take line_room (b ∷ bs) = ap (λ h. h.kept) e ∙ kept-held_of (b ∷ bs) in
    absurd (omega (arith, ap length kept, length-take line_room (b ∷ bs)))

-- the text that is kept is that of the line
pub text_held-held_of : (line : List ℕ) → text_held (held_of line) ≡ text_if_fits line
unfolding text_held
text_held-held_of line =
    elim (cases_lt line_room (length line)) [
      | inl long ↦
          rw (held_of-long line long)
          (sym (cond-false (fits_line line) (Some (text_of_line line)) None (lt-leb (length (text_of_line line)) line_limit (omega (arith, length-text_of_line line)))))
      | inr short ↦ rw (held_of-short line short) refl
    ]

-- so is the line itself
pub line_held-held_of : (line : List ℕ) → line_held (held_of line) ≡ cond (fits_line line) (Some line) None
unfolding line_held
line_held-held_of line =
    elim (cases_lt line_room (length line)) [
      | inl long ↦
          rw (held_of-long line long)
          (sym (cond-false (fits_line line) (Some line) None (lt-leb (length (text_of_line line)) line_limit (omega (arith, length-text_of_line line)))))
      | inr short ↦ rw (held_of-short line short) refl
    ]
