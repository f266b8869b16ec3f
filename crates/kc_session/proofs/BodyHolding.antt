-- What the body buffer keeps of lines, line by line.
use Rattle.std.proofs.Common.{◌≡◌, ℕ, ◌+◌, ◌-◌, ◌<◌, ◌≤◌, ◌==◌, Bool, true, false, true≢false, ◌&&◌, List, [], ◌∷◌, ◌++◌, length, Option, Some, None, is_some, cond, Err, refl, sym, ap, subst, ◌∙◌, inl, inr, arith, append-nil, length-append}
use Rattle.std.specs.Prelude.{nat_le}
use Rattle.std.specs.List.{list_all}
use Rattle.std.proofs.lemmas.Bool.{cases_lt, le-leb, lt-leb, and_parts, ne_eqb}
use Rattle.std.proofs.lemmas.Grind.{flat_map-append}
use Rattle.std.proofs.lemmas.Option.{cond_some, none-some}
use Rattle.std.proofs.lemmas.List.Folds.{list_all-append}
use Rattle.kc_session.specs.declared.command.Refusal.{Refusal}
use Rattle.kc_session.specs.declared.command.Refusal.TheVariants.{UnknownCommand, UndefinedSymbol, BadValue, BadMemberValue, BadLineCount, TooLong, NoMemory}
use Rattle.kc_session.specs.Bodies.{body_limit, fits_body}
use Rattle.kc_session.specs.Stream.{fits_line, lines_of}
use Rattle.kc_session.specs.Held.{HeldLine, held_of, line_held}
use Rattle.kc_session.specs.HeldBody.{HeldBody, joined, fit_lines, HoldsLines, HoldsLinesAs, GivesBody, body_held, content_of}
use Rattle.kc_session.proofs.Holding.{line_held-held_of}

-- ---- one line more
pub joined-push : (lines : List (List ℕ)) (line : List ℕ) → joined (lines ++ line ∷ []) ≡ joined lines ++ line
joined-push lines line = flat_map-append (λ l. l) lines (line ∷ []) ∙ ap (λ r. joined lines ++ r) (append-nil line)

length-push : (lines : List (List ℕ)) (line : List ℕ) → length (joined (lines ++ line ∷ [])) ≡ length (joined lines) + length line
length-push lines line = ap length (joined-push lines line) ∙ length-append (joined lines) line

pub and_false : (a b : Bool) → b ≡ false → (a && b) ≡ false
and_false true b e = e
and_false false b e = refl

pub both_true : (a b : Bool) → a ≡ true → b ≡ true → (a && b) ≡ true
both_true true b e f = f
both_true false b e f = absurd (true≢false (sym e))

fit_all : (lines : List (List ℕ)) (line : List ℕ) → list_all fits_line (lines ++ line ∷ []) ≡ (list_all fits_line lines && list_all fits_line (line ∷ []))
fit_all lines line = list_all-append fits_line lines (line ∷ [])

fit_one : (line : List ℕ) (b : Bool) → fits_line line ≡ b → list_all fits_line (line ∷ []) ≡ b
fit_one line true e = ap (λ x. x && true) e
fit_one line false e = ap (λ x. x && true) e

fits_more : (lines : List (List ℕ)) (line : List ℕ) → fit_lines lines ≡ true → fits_line line ≡ true → length (joined lines) + length line ≤ body_limit
    → fit_lines (lines ++ line ∷ []) ≡ true
unfolding fit_lines
fits_more lines line fits one room =
    let parts = and_parts (nat_le (length (joined lines)) body_limit) (list_all fits_line lines) fits in
    both_true _ _ (le-leb (length (joined (lines ++ line ∷ []))) body_limit (omega (arith, room, length-push lines line)))
    (fit_all lines line ∙ both_true _ _ parts.1 (fit_one line true one))

too_many : (lines : List (List ℕ)) (line : List ℕ) → body_limit < length (joined lines) + length line → fit_lines (lines ++ line ∷ []) ≡ false
unfolding fit_lines
too_many lines line past =
    ap (λ b. b && list_all fits_line (lines ++ line ∷ [])) (lt-leb (length (joined (lines ++ line ∷ []))) body_limit (omega (arith, past, length-push lines line)))

line_too_long : (lines : List (List ℕ)) (line : List ℕ) → fits_line line ≡ false → fit_lines (lines ++ line ∷ []) ≡ false
unfolding fit_lines
line_too_long lines line long =
    and_false _ _ (fit_all lines line ∙ and_false _ _ (fit_one line false long))

stays_long : (lines : List (List ℕ)) (line : List ℕ) → fit_lines lines ≡ false → fit_lines (lines ++ line ∷ []) ≡ false
unfolding fit_lines
stays_long lines line long =
    elim (cases_lt body_limit (length (joined lines))) [
      | inl past ↦ too_many lines line (omega (arith, past))
      | inr room ↦
          let short : nat_le (length (joined lines)) body_limit ≡ true = le-leb (length (joined lines)) body_limit room in
          let some : list_all fits_line lines ≡ false = sym (ap (λ b. b && list_all fits_line lines) short) ∙ long in
          and_false _ _ (fit_all lines line ∙ ap (λ b. b && list_all fits_line (line ∷ [])) some)
    ]

cond_none_part : (b : Bool) (x : List ℕ) → cond b (Some x) None ≡ None → b ≡ false
cond_none_part true x e = absurd (none-some x (sym e))
cond_none_part false x e = refl

-- ---- what is held
pub held_nothing : (held : HeldBody) → held.bytes ≡ [] → held.size ≡ 0 → held.refusal ≡ None → HoldsLines held []
unfolding HoldsLines fit_lines
held_nothing held none zero whole = subst (λ r. HoldsLinesAs r held.bytes held.size []) (sym whole) (none, zero, refl)

module _ (held new : HeldBody) (lines : List (List ℕ)) (line : List ℕ) where
  as_long : new.refusal ≡ Some TooLong → fit_lines (lines ++ line ∷ []) ≡ false → HoldsLines new (lines ++ line ∷ [])
  unfolding HoldsLines
  as_long is long = subst (λ r. HoldsLinesAs r new.bytes new.size (lines ++ line ∷ [])) (sym is) long

  -- there is no room for the line
  pub held_past : HoldsLines held lines → held.size ≤ body_limit → body_limit - held.size < length line → new.refusal ≡ Some TooLong
      → HoldsLines new (lines ++ line ∷ [])
  unfolding HoldsLines
  held_past h within past is = as_long is (go held.refusal h)
    where
      long : held.size ≡ length (joined lines) → fit_lines (lines ++ line ∷ []) ≡ false
      long same = too_many lines line (omega (arith, same, within, past))

      go : (r : Option Refusal) → HoldsLinesAs r held.bytes held.size lines → fit_lines (lines ++ line ∷ []) ≡ false
      go None k = long k.1
      go (Some TooLong) k = stays_long lines line k
      go (Some NoMemory) k = long k.0
      go (Some UnknownCommand) k = absurd k
      go (Some UndefinedSymbol) k = absurd k
      go (Some BadValue) k = absurd k
      go (Some BadMemberValue) k = absurd k
      go (Some BadLineCount) k = absurd k

  -- the line is too long itself
  pub held_long : fits_line line ≡ false → new.refusal ≡ Some TooLong → HoldsLines new (lines ++ line ∷ [])
  held_long long is = as_long is (line_too_long lines line long)

  -- the line is counted and not kept, as those before it
  pub held_counted : HoldsLines held lines → fits_line line ≡ true → held.size + length line ≤ body_limit → is_some held.refusal ≡ true
      → new.refusal ≡ held.refusal → new.size ≡ held.size + length line → HoldsLines new (lines ++ line ∷ [])
  unfolding HoldsLines
  held_counted h fits room some same more =
      subst (λ r. HoldsLinesAs r new.bytes new.size (lines ++ line ∷ [])) (sym same) (go held.refusal h some)
    where
      go : (r : Option Refusal) → HoldsLinesAs r held.bytes held.size lines → is_some r ≡ true → HoldsLinesAs r new.bytes new.size (lines ++ line ∷ [])
      go None k e = absurd (true≢false (sym e))
      go (Some TooLong) k e = stays_long lines line k
      go (Some NoMemory) k e =
          (omega (arith, more, k.0, length-push lines line), fits_more lines line k.1 fits (omega (arith, k.0, room)))
      go (Some UnknownCommand) k e = absurd k
      go (Some UndefinedSymbol) k e = absurd k
      go (Some BadValue) k e = absurd k
      go (Some BadMemberValue) k e = absurd k
      go (Some BadLineCount) k e = absurd k

  -- the line is kept
  pub held_kept : HoldsLines held lines → fits_line line ≡ true → held.size + length line ≤ body_limit → held.refusal ≡ None
      → new.refusal ≡ None → new.size ≡ held.size + length line → new.bytes ≡ held.bytes ++ line → HoldsLines new (lines ++ line ∷ [])
  unfolding HoldsLines
  held_kept h fits room whole same more kept =
      let k = subst (λ r. HoldsLinesAs r held.bytes held.size lines) whole h in
      subst (λ r. HoldsLinesAs r new.bytes new.size (lines ++ line ∷ [])) (sym same)
      (kept ∙ ap (λ bytes. bytes ++ line) k.0 ∙ sym (joined-push lines line), omega (arith, more, k.1, length-push lines line), fits_more lines line k.2 fits (omega (arith, k.1, room)))

  -- memory was refused for it
  pub held_starved : HoldsLines held lines → fits_line line ≡ true → held.size + length line ≤ body_limit → held.refusal ≡ None
      → new.refusal ≡ Some NoMemory → new.size ≡ held.size + length line → HoldsLines new (lines ++ line ∷ [])
  unfolding HoldsLines
  held_starved h fits room whole same more =
      let k = subst (λ r. HoldsLinesAs r held.bytes held.size lines) whole h in
      subst (λ r. HoldsLinesAs r new.bytes new.size (lines ++ line ∷ [])) (sym same)
      (omega (arith, more, k.1, length-push lines line), fits_more lines line k.2 fits (omega (arith, k.1, room)))

-- a line of the line buffer that is not too long, and what `push` does with it
pub pushed_line : (held new : HeldBody) (line : HeldLine) (kept : List ℕ) → line_held line ≡ Some kept
    → ((lines : List (List ℕ)) → HoldsLines held lines → fits_line kept ≡ true → HoldsLines new (lines ++ kept ∷ []))
    → (lines : List (List ℕ)) (bytes : List ℕ) → HoldsLines held lines → line ≡ held_of bytes → HoldsLines new (lines ++ bytes ∷ [])
pushed_line held new line kept is pushes lines bytes h holds =
    let some : cond (fits_line bytes) (Some bytes) None ≡ Some kept = sym (ap line_held holds ∙ line_held-held_of bytes) ∙ is in
    let p = cond_some (fits_line bytes) bytes kept some in
    subst (λ b. HoldsLines new (lines ++ b ∷ [])) (sym p.1) (pushes lines h (subst (λ b. fits_line b ≡ true) p.1 p.0))

-- a line that is too long
pub pushed_long : (held new : HeldBody) (line : HeldLine) → line_held line ≡ None → new.refusal ≡ Some TooLong
    → (lines : List (List ℕ)) (bytes : List ℕ) → HoldsLines held lines → line ≡ held_of bytes → HoldsLines new (lines ++ bytes ∷ [])
pushed_long held new line none is lines bytes h holds =
    held_long held new lines bytes (cond_none_part (fits_line bytes) bytes (sym (ap line_held holds ∙ line_held-held_of bytes) ∙ none)) is

-- ---- the whole body
pub GivesBody-all : (held : HeldBody) (k : ℕ) (lines : List (List ℕ)) → HoldsLines held lines → length lines ≡ k → GivesBody (body_held held) k lines
unfolding HoldsLines
GivesBody-all held k lines h count = go held.refusal h
  where
    go : (r : Option Refusal) → HoldsLinesAs r held.bytes held.size lines → GivesBody (content_of held.bytes r) k lines
    go None p = (count, p.0, p.2)
    go (Some TooLong) p = (count, p)
    go (Some NoMemory) p = (count, p.1)
    go (Some UnknownCommand) p = absurd p
    go (Some UndefinedSymbol) p = absurd p
    go (Some BadValue) p = absurd p
    go (Some BadMemberValue) p = absurd p
    go (Some BadLineCount) p = absurd p

pub GivesBody-short : (held : HeldBody) (k : ℕ) (lines : List (List ℕ)) → body_held held ≡ Err BadLineCount → (length lines == k) ≡ false → GivesBody (body_held held) k lines
GivesBody-short held k lines is few = subst (λ c. GivesBody c k lines) (sym is) few

-- a body of a line behind which the stream has ended
pub empty_body : (held : HeldBody) (k : ℕ) → HoldsLines held [] → k ≤ 0 → GivesBody (body_held held) k []
empty_body held k h none = GivesBody-all held k [] h (omega (arith, none))

pub missing_body : (held : HeldBody) (k : ℕ) → body_held held ≡ Err BadLineCount → 0 < k → GivesBody (body_held held) k []
missing_body held k is some = GivesBody-short held k [] is (ne_eqb 0 k (λ e. absurd (omega (arith, e, some))))

-- lines that are those of their bytes fit together as these do
pub fits_body-joined : (lines : List (List ℕ)) → lines_of (joined lines) ≡ lines → fits_body (joined lines) ≡ fit_lines lines
unfolding fits_body fit_lines
fits_body-joined lines same = ap (λ ls. nat_le (length (joined lines)) body_limit && list_all fits_line ls) same
