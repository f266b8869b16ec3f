-- The tokens of a line from left to right, until the first fault.
use Rattle.std.proofs.Common.{◌≡◌, ℕ, ◌+◌, List, [], ◌∷◌, ◌++◌, length, true, false, ◌==◌, ◌||◌, nat_le, cond, arith, Bor, Option, Some, None, IfSome, IfNone, subst, Result, Ok, Err, refl, sym, ap, ◌∙◌}
use Rattle.std.specs.List.{list_any}
use Rattle.std.proofs.lemmas.Bool.Decides.{nat_tests}
use Rattle.std.proofs.lemmas.List.{append-nil}
use Rattle.std.proofs.lemmas.List.Folds.{list_any-append}
use Rattle.kc_text.specs.declared.fault.TextProblem.{TextProblem}
use Rattle.kc_text.specs.declared.fault.LineFault.{LineFault}
use Rattle.kc_text.specs.declared.fault.LineFault.TheVariants.{Problem, NoMemory}
use Rattle.kc_text.specs.declared.line.Token.{Token}
use Rattle.kc_text.specs.declared.line.Token.TheVariants.{Word, Expanded, Quoted}
use Rattle.kc_text.specs.declared.expansion.Piece.{Piece as Part}
use Rattle.kc_text.specs.Faults.{ReadsBy}
use Rattle.kc_text.specs.References.{Piece}
use Rattle.kc_text.specs.Lexing.{Raw, word, quoted, raw_tokens}
use Rattle.kc_text.specs.Expansion.{Names, Environment, Progress, then_on, put, expansion, start, followed}
use Rattle.kc_text.specs.Scanning.{piece_of, pieces_of, bytes_of}
use Rattle.kc_text.specs.Tokens.{ahead, before, is_reference, word_of, token_of, tokens_of, line_tokens}
use Rattle.kc_text.proofs.Expanding.{expanded-bytes}

pub ahead-push : {A E : Type 0} (xs : List A) (x : A) (r : Result (List A) E) → ahead (xs ++ x ∷ []) r ≡ ahead xs (before x r)
ahead-push [] x r = refl
ahead-push (y ∷ xs) x r = ap (before y) (ahead-push xs x r)

ahead-ok : {A E : Type 0} (xs ys : List A) → ahead {E = E} xs (Ok ys) ≡ Ok (xs ++ ys)
ahead-ok [] ys = refl
ahead-ok {E = E} (x ∷ xs) ys = ap (before x) (ahead-ok {E = E} xs ys)

ahead-err : {A E : Type 0} (xs : List A) (e : E) → ahead xs (Err e) ≡ Err e
ahead-err [] e = refl
ahead-err (x ∷ xs) e = ap (before x) (ahead-err xs e)

-- the tokens that were found before none
pub ahead-none : {A E : Type 0} (xs : List A) → ahead {E = E} xs (Ok []) ≡ Ok xs
ahead-none {E = E} xs = ahead-ok {E = E} xs [] ∙ ap Ok (append-nil xs)

-- a fault of a part that is one of the whole
pub fault_along : {X Y A B : Type 0} (part_view : X → A) (view : Y → B) (f : LineFault) (part : Result A TextProblem) (whole : Result B TextProblem)
    → ((problem : TextProblem) → part ≡ Err problem → whole ≡ Err problem) → ReadsBy part_view (Err f) part → ReadsBy view (Err f) whole
fault_along part_view view (Problem problem) part whole along h = along problem h
fault_along part_view view NoMemory part whole along h = tt

-- bytes hold no reference
pub no_reference : (bs : List ℕ) → list_any is_reference (bytes_of bs) ≡ false
no_reference [] = refl
no_reference (b ∷ bs) = no_reference bs

-- a part holds a reference, or another one does
pub any_reference : (parts : List Part) → list_any (λ part. list_any is_reference (piece_of part)) parts ≡ list_any is_reference (pieces_of parts)
any_reference [] = refl
any_reference (part ∷ parts) =
    ap (λ b. list_any is_reference (piece_of part) || b) (any_reference parts) ∙ sym (list_any-append is_reference (piece_of part) (pieces_of parts))

-- what is made of a text, where only its bytes count
pub text_then : {B E : Type 0} (r : Result Progress E) (make : List ℕ → B) → then_on r (λ p. Ok (make p.text)) ≡ then_on (then_on r (λ p. Ok p.text)) (λ text. Ok (make text))
text_then (Ok p) make = refl
text_then (Err e) make = refl

module _ (names : Names) (outside : Environment) where
  -- the text that parts have
  abbrev pub text_of_parts : List Piece → Result (List ℕ) TextProblem
  text_of_parts ps = then_on (expansion names outside ps start) (λ p. Ok p.text)

  pub word_is : (ps : List Piece) (text : Result (List ℕ) TextProblem) → text_of_parts ps ≡ text → token_of names outside (word ps) ≡ then_on text (λ t. Ok (word_of ps t))
  word_is ps text e = text_then (expansion names outside ps start) (word_of ps) ∙ ap (λ r. then_on r (λ t. Ok (word_of ps t))) e

  pub quoted_is : (ps : List Piece) (text : Result (List ℕ) TextProblem) → text_of_parts ps ≡ text → token_of names outside (quoted ps) ≡ then_on text (λ t. Ok (Quoted t))
  quoted_is ps text e = text_then (expansion names outside ps start) Quoted ∙ ap (λ r. then_on r (λ t. Ok (Quoted t))) e

  -- bytes are their own text
  plain_text_is : (bs : List ℕ) → text_of_parts (bytes_of bs) ≡ then_on (put bs start) (λ p. Ok p.text)
  plain_text_is bs =
      ap (λ ps. text_of_parts ps) (sym (append-nil (bytes_of bs))) ∙ ap (λ r. then_on r (λ p. Ok p.text)) (expanded-bytes (followed names outside 64 []) bs [] start)
      ∙ after (put bs start)
    where
      after : (r : Result Progress TextProblem) → then_on (then_on r (λ q. Ok q)) (λ p. Ok p.text) ≡ then_on r (λ p. Ok p.text)
      after (Ok p) = refl
      after (Err e) = refl

  pub plain_word : (bs : List ℕ) (text : Result (List ℕ) TextProblem) → then_on (put bs start) (λ p. Ok p.text) ≡ text → token_of names outside (word (bytes_of bs)) ≡ then_on text (λ t. Ok (Word t))
  plain_word bs text e =
      word_is (bytes_of bs) text (plain_text_is bs ∙ e) ∙ ap (λ b. then_on text (λ t. Ok (cond b (Expanded t) (Word t)))) (no_reference bs)

  pub plain_quoted : (bs : List ℕ) (text : Result (List ℕ) TextProblem) → then_on (put bs start) (λ p. Ok p.text) ≡ text → token_of names outside (quoted (bytes_of bs)) ≡ then_on text (λ t. Ok (Quoted t))
  plain_quoted bs text e = quoted_is (bytes_of bs) text (plain_text_is bs ∙ e)

-- a text that keeps the limit is its own
put_short : (bs : List ℕ) → nat_le (length bs) 65536 ≡ true → then_on (put bs start) (λ p. Ok p.text) ≡ Ok bs
put_short bs h =
    let fits : (length bs == 0 || nat_le (0 + length bs) 65536) ≡ true = grind (arith, nat_tests, h) in
    rw fits refl

module _ (names : Names) (outside : Environment) where
  pub short_word : (bs : List ℕ) → nat_le (length bs) 65536 ≡ true → token_of names outside (word (bytes_of bs)) ≡ Ok (Word bs)
  short_word bs h = plain_word names outside bs (Ok bs) (put_short bs h)

  pub short_quoted : (bs : List ℕ) → nat_le (length bs) 65536 ≡ true → token_of names outside (quoted (bytes_of bs)) ≡ Ok (Quoted bs)
  short_quoted bs h = plain_quoted names outside bs (Ok bs) (put_short bs h)

  -- a token stands before those behind it
  pub shows_first : (raws : List Raw) (after : List ℕ) (raw : Raw) (t : Token) → raws ≡ raw ∷ raw_tokens after → token_of names outside raw ≡ Ok t
      → tokens_of names outside raws ≡ before t (line_tokens names outside after)
  shows_first raws after raw t lexes e = ap (tokens_of names outside) lexes ∙ ap (λ r. then_on r (λ x. before x (line_tokens names outside after))) e

-- what is found in a part of a line where tokens stand before it
pub fault_ahead : (f : LineFault) (ts : List Token) (line rest : Result (List Token) TextProblem) → line ≡ ahead ts rest
    → ReadsBy (λ (xs : List Token). xs) (Err f) rest → ReadsBy (λ (xs : List Token). xs) (Err f) line
fault_ahead f ts line rest found h = fault_along (λ (xs : List Token). xs) (λ (xs : List Token). xs) f rest line (λ p e. found ∙ ap (ahead ts) e ∙ ahead-err ts p) h

-- the token that is found first, and that none is found
module _ (found : List ℕ → Result (List Token) TextProblem) (rest : List ℕ) (first : Option (Token × Bor (List ℕ))) where
  pub shows_some : (t : Token) (after : Bor (List ℕ)) → first ≡ Some (t, after) → IfSome first (λ x. found rest ≡ before x.0 (found x.1.now)) → found rest ≡ before t (found after.now)
  shows_some t after e h = subst (λ (o : Option (Token × Bor (List ℕ))). IfSome o (λ x. found rest ≡ before x.0 (found x.1.now))) e h

  pub shows_none : first ≡ None → IfNone first (found rest ≡ Ok []) → found rest ≡ Ok []
  shows_none e h = subst (λ (o : Option (Token × Bor (List ℕ))). IfNone o (found rest ≡ Ok [])) e h
