-- How a line is read run by run, where the definitions read it byte by byte.
use Rattle.std.proofs.Common.{◌≡◌, ℕ, zero, suc, ◌+◌, ◌<◌, ◌≤◌, Bool, true, false, cond, eqb, not, ◌||◌, List, [], ◌∷◌, ◌++◌, Option, Some, None, length, take, drop, slice_index, refl, sym, ap, ◌∙◌, append_assoc, add-one, drop-cons, arith}
use Rattle.std.specs.List.{prefix_len}
use Rattle.std.proofs.lemmas.Bool.{false≢true, or_parts}
use Rattle.std.proofs.lemmas.Bool.Decides.{nat_tests}
use Rattle.std.proofs.lemmas.List.{append-nil}
use Rattle.kc_text.specs.declared.line.Operator.{Operator}
use Rattle.kc_text.specs.Bytes.{begins_with, is_blank, is_word}
use Rattle.kc_text.specs.References.{Piece, byte, reference, malformed, reference_after_dollar, reference_len}
use Rattle.kc_text.specs.Lexing.{Raw, word, quoted, operator, unclosed, Mode, between, in_word, in_quotes, Step, on, stop, is_quote, begins_word, word_dollar, sign_step, between_step, showing, quotes_dollar, quotes_backslash, is_plain, step, lexed, raw_tokens}
use Rattle.kc_text.specs.Scanning.{bytes_of}
use Rattle.kc_text.proofs.Runs.{prefix_len-yes, prefix_len-no, first_past_run}

-- what is shown from a step on
abbrev pub after_step : Step → List ℕ → List Raw
after_step s bs = elim s [ on ts n next ↦ ts ++ lexed n next bs | stop ts ↦ ts ]

pub lexed_step : (m : Mode) (b : ℕ) (bs : List ℕ) (s : Step) → step m b bs ≡ s → lexed 0 m (b ∷ bs) ≡ after_step s bs
lexed_step m b bs s e = ap (λ x. after_step x bs) e

-- bytes that belong to what was read before are passed
pub lexed-drop : (n : ℕ) (m : Mode) (bs : List ℕ) → lexed n m bs ≡ lexed 0 m (drop n bs)
lexed-drop zero m bs = refl
lexed-drop (suc n) m [] = refl
lexed-drop (suc n) m (b ∷ bs) = lexed-drop n m bs

-- a run of bytes that pass a test, in a mode where each of them is only taken
module _ (mode : List Piece → Mode) (test : ℕ → Bool) (takes : (ps : List Piece) (b : ℕ) (bs : List ℕ) → test b ≡ true → step (mode ps) b bs ≡ on [] 0 (mode (ps ++ byte b ∷ []))) where
  abbrev after_run : List Piece → List ℕ → ℕ → List Raw
  after_run ps bs n = lexed 0 (mode (ps ++ bytes_of (take n bs))) (drop n bs)

  run_yes : (ps : List Piece) (b : ℕ) (bs : List ℕ) → test b ≡ true → lexed 0 (mode (ps ++ byte b ∷ [])) bs ≡ after_run (ps ++ byte b ∷ []) bs (prefix_len test bs)
      → lexed 0 (mode ps) (b ∷ bs) ≡ after_run ps (b ∷ bs) (prefix_len test (b ∷ bs))
  run_yes ps b bs e rest =
      lexed_step (mode ps) b bs (on [] 0 (mode (ps ++ byte b ∷ []))) (takes ps b bs e) ∙ rest
      ∙ ap (λ v. lexed 0 (mode v) (drop (prefix_len test bs) bs)) (append_assoc ps (byte b ∷ []) (bytes_of (take (prefix_len test bs) bs)))
      ∙ ap (after_run ps (b ∷ bs)) (sym (prefix_len-yes test b bs e))

  run_no : (ps : List Piece) (b : ℕ) (bs : List ℕ) → test b ≡ false → lexed 0 (mode ps) (b ∷ bs) ≡ after_run ps (b ∷ bs) (prefix_len test (b ∷ bs))
  run_no ps b bs e = ap (λ v. lexed 0 (mode v) (b ∷ bs)) (sym (append-nil ps)) ∙ ap (after_run ps (b ∷ bs)) (sym (prefix_len-no test b bs e))

  pub run : (ps : List Piece) (bs : List ℕ) → lexed 0 (mode ps) bs ≡ after_run ps bs (prefix_len test bs)
  run ps [] = ap (λ v. lexed 0 (mode v) []) (sym (append-nil ps))
  run ps (b ∷ bs) =
      elim (test b) as (λ v. test b ≡ v → lexed 0 (mode ps) (b ∷ bs) ≡ after_run ps (b ∷ bs) (prefix_len test (b ∷ bs))) [
        | true ↦ λ e. run_yes ps b bs e (run (ps ++ byte b ∷ []) bs)
        | false ↦ λ e. run_no ps b bs e
      ] refl

-- blanks show nothing
pub blank_takes : (ps : List Piece) (b : ℕ) (bs : List ℕ) → is_blank b ≡ true → step between b bs ≡ on [] 0 between
blank_takes ps b bs e = rw e

pub raw_tokens-blanks : (bs : List ℕ) → raw_tokens (drop (prefix_len is_blank bs) bs) ≡ raw_tokens bs
raw_tokens-blanks bs = sym (run (λ _. between) is_blank blank_takes [] bs)

-- the bytes of a word
pub word_takes : (ps : List Piece) (b : ℕ) (bs : List ℕ) → is_word b ≡ true → step (in_word ps) b bs ≡ on [] 0 (in_word (ps ++ byte b ∷ []))
word_takes ps b bs e = rw e

pub lexed-word_run : (ps : List Piece) (bs : List ℕ) → lexed 0 (in_word ps) bs ≡ lexed 0 (in_word (ps ++ bytes_of (take (prefix_len is_word bs) bs))) (drop (prefix_len is_word bs) bs)
lexed-word_run ps bs = run in_word is_word word_takes ps bs

-- a dollar in a word
abbrev after_word_dollar : List Piece → List ℕ → Option (List ℕ) → Step
after_word_dollar ps bs found = elim found [
  | Some name ↦ on [] (reference_len name) (in_word (ps ++ reference name ∷ []))
  | None ↦ stop (word (ps ++ malformed ∷ []) ∷ [])
]

pub lexed-word_reference : (ps : List Piece) (bs name : List ℕ) → reference_after_dollar bs ≡ Some name
    → lexed 0 (in_word ps) (36 ∷ bs) ≡ lexed 0 (in_word (ps ++ reference name ∷ [])) (drop (reference_len name) bs)
lexed-word_reference ps bs name e =
    lexed_step (in_word ps) 36 bs (on [] (reference_len name) (in_word (ps ++ reference name ∷ []))) (ap (after_word_dollar ps bs) e)
    ∙ lexed-drop (reference_len name) (in_word (ps ++ reference name ∷ [])) bs

pub lexed-word_malformed : (ps : List Piece) (bs : List ℕ) → reference_after_dollar bs ≡ None
    → lexed 0 (in_word ps) (36 ∷ bs) ≡ lexed 0 (in_word (ps ++ malformed ∷ [])) []
lexed-word_malformed ps bs e = lexed_step (in_word ps) 36 bs (stop (word (ps ++ malformed ∷ []) ∷ [])) (ap (after_word_dollar ps bs) e)

-- a word begins as it goes on
abbrev pub between_by : Bool → Bool → Bool → ℕ → List ℕ → Step
between_by blank in_word_too dollar b bs = cond blank (on [] 0 between) (cond in_word_too (on [] 0 (in_word (byte b ∷ []))) (cond dollar (word_dollar [] bs) (sign_step b bs)))

abbrev word_by : List Piece → Bool → Bool → ℕ → List ℕ → Step
word_by ps goes_on dollar b bs = cond goes_on (on [] 0 (in_word (ps ++ byte b ∷ []))) (cond dollar (word_dollar ps bs) (showing (word ps) (between_step b bs)))

word_not_blank : (b : ℕ) → is_word b ≡ true → is_blank b ≡ false
word_not_blank b e = grind (arith, nat_tests)

dollar_not_blank : (b : ℕ) → eqb b 36 ≡ true → is_blank b ≡ false
dollar_not_blank b e = grind (arith, nat_tests)

word_begins_byte : (b : ℕ) (bs : List ℕ) → is_word b ≡ true → between_step b bs ≡ step (in_word []) b bs
word_begins_byte b bs e = (λ i. between_by (word_not_blank b e i) (e i) (eqb b 36) b bs) ∙ sym (λ i. word_by [] (e i) (eqb b 36) b bs)

word_begins_dollar : (b : ℕ) (bs : List ℕ) → is_word b ≡ false → eqb b 36 ≡ true → between_step b bs ≡ step (in_word []) b bs
word_begins_dollar b bs n e = (λ i. between_by (dollar_not_blank b e i) (n i) (e i) b bs) ∙ sym (λ i. word_by [] (n i) (e i) b bs)

pub word_begins : (bs : List ℕ) → begins_word bs ≡ true → raw_tokens bs ≡ lexed 0 (in_word []) bs
word_begins [] h = absurd (false≢true h)
word_begins (b ∷ bs) h =
    elim (is_word b) as (λ v. is_word b ≡ v → raw_tokens (b ∷ bs) ≡ lexed 0 (in_word []) (b ∷ bs)) [
      | true ↦ λ e. ap (λ s. after_step s bs) (word_begins_byte b bs e)
      | false ↦ λ e. ap (λ s. after_step s bs) (word_begins_dollar b bs e (ap (λ v. v || eqb b 36) (sym e) ∙ h))
    ] refl

-- a word is shown where it ends
after_step-showing : (t : Raw) (s : Step) (bs : List ℕ) → after_step (showing t s) bs ≡ t ∷ after_step s bs
after_step-showing t (on ts n m) bs = refl
after_step-showing t (stop ts) bs = refl

pub word_ends : (ps : List Piece) (bs : List ℕ) → begins_word bs ≡ false → lexed 0 (in_word ps) bs ≡ word ps ∷ raw_tokens bs
word_ends ps [] h = refl
word_ends ps (b ∷ bs) h =
    let parts = or_parts (is_word b) (eqb b 36) h in
    ap (λ s. after_step s bs) (λ i. word_by ps (parts.0 i) (parts.1 i) b bs) ∙ after_step-showing (word ps) (between_step b bs) bs

-- the bytes in quotes that stand for themselves
pub plain_takes : (q : ℕ) (ps : List Piece) (b : ℕ) (bs : List ℕ) → is_plain q b ≡ true → step (in_quotes q ps) b bs ≡ on [] 0 (in_quotes q (ps ++ byte b ∷ []))
plain_takes q ps b bs e = rw e

pub lexed-plain_run : (q : ℕ) (ps : List Piece) (bs : List ℕ) → lexed 0 (in_quotes q ps) bs ≡ lexed 0 (in_quotes q (ps ++ bytes_of (take (prefix_len (is_plain q) bs) bs))) (drop (prefix_len (is_plain q) bs) bs)
lexed-plain_run q ps bs = run (in_quotes q) (is_plain q) (plain_takes q) ps bs

-- the other bytes in quotes, all of them ASCII
pub quote_is_ascii : (q : ℕ) → is_quote q ≡ true → q < 128
quote_is_ascii q e = grind (arith, nat_tests)

pub plain_stop_is_ascii : (q : ℕ) → is_quote q ≡ true → (b : ℕ) → is_plain q b ≡ false → b < 128
plain_stop_is_ascii q k b e = grind (arith, nat_tests)

beyond_ascii_is_plain : (q b : ℕ) → is_quote q ≡ true → 128 ≤ b → is_plain q b ≡ true
beyond_ascii_is_plain q b k e = grind (arith, nat_tests)

backslash_is_no_quote : (q : ℕ) → is_quote q ≡ true → eqb 92 q ≡ false
backslash_is_no_quote q k = grind (arith, nat_tests)

dollar_is_no_quote : (q : ℕ) → is_quote q ≡ true → eqb 36 q ≡ false
dollar_is_no_quote q k = grind (arith, nat_tests)

same_quote : (q : ℕ) → eqb q q ≡ true
same_quote q = grind (arith, nat_tests)

abbrev quotes_by : ℕ → List Piece → Bool → ℕ → List ℕ → Step
quotes_by q ps closes b bs =
    cond (not (closes || (eqb b 92 || eqb b 36))) (on [] 0 (in_quotes q (ps ++ byte b ∷ [])))
    (cond closes (on (quoted ps ∷ []) 0 between) (cond (eqb b 92) (quotes_backslash q ps bs) (quotes_dollar q ps bs)))

pub quotes_end : (q : ℕ) (ps : List Piece) (bs : List ℕ) → lexed 0 (in_quotes q ps) (q ∷ bs) ≡ quoted ps ∷ raw_tokens bs
quotes_end q ps bs = lexed_step (in_quotes q ps) q bs (on (quoted ps ∷ []) 0 between) (λ i. quotes_by q ps (same_quote q i) q bs)

-- a dollar in quotes
abbrev after_quotes_dollar : ℕ → List Piece → List ℕ → Option (List ℕ) → Step
after_quotes_dollar q ps bs found = elim found [
  | Some name ↦ on [] (reference_len name) (in_quotes q (ps ++ reference name ∷ []))
  | None ↦ stop (unclosed (ps ++ malformed ∷ []) ∷ [])
]

pub lexed-quotes_reference : (q : ℕ) (ps : List Piece) (bs name : List ℕ) → is_quote q ≡ true → reference_after_dollar bs ≡ Some name
    → lexed 0 (in_quotes q ps) (36 ∷ bs) ≡ lexed 0 (in_quotes q (ps ++ reference name ∷ [])) (drop (reference_len name) bs)
lexed-quotes_reference q ps bs name k e =
    lexed_step (in_quotes q ps) 36 bs (on [] (reference_len name) (in_quotes q (ps ++ reference name ∷ [])))
    ((λ i. quotes_by q ps (dollar_is_no_quote q k i) 36 bs) ∙ ap (after_quotes_dollar q ps bs) e)
    ∙ lexed-drop (reference_len name) (in_quotes q (ps ++ reference name ∷ [])) bs

pub lexed-quotes_malformed : (q : ℕ) (ps : List Piece) (bs : List ℕ) → is_quote q ≡ true → reference_after_dollar bs ≡ None
    → lexed 0 (in_quotes q ps) (36 ∷ bs) ≡ lexed 0 (in_quotes q (ps ++ malformed ∷ [])) []
lexed-quotes_malformed q ps bs k e =
    lexed_step (in_quotes q ps) 36 bs (stop (unclosed (ps ++ malformed ∷ []) ∷ []))
    ((λ i. quotes_by q ps (dollar_is_no_quote q k i) 36 bs) ∙ ap (after_quotes_dollar q ps bs) e)

-- a backslash in quotes: before a byte, at the end, and before a byte that stands for itself anyway
quotes_step-backslash : (q : ℕ) (ps : List Piece) (bs : List ℕ) → is_quote q ≡ true → step (in_quotes q ps) 92 bs ≡ quotes_backslash q ps bs
quotes_step-backslash q ps bs k = λ i. quotes_by q ps (backslash_is_no_quote q k i) 92 bs

pub lexed-escaped : (q : ℕ) (ps : List Piece) (c : ℕ) (bs : List ℕ) → is_quote q ≡ true → lexed 0 (in_quotes q ps) (92 ∷ c ∷ bs) ≡ lexed 0 (in_quotes q (ps ++ byte c ∷ [])) bs
lexed-escaped q ps c bs k = lexed_step (in_quotes q ps) 92 (c ∷ bs) (quotes_backslash q ps (c ∷ bs)) (quotes_step-backslash q ps (c ∷ bs) k)

pub lexed-end_backslash : (q : ℕ) (ps : List Piece) → is_quote q ≡ true → lexed 0 (in_quotes q ps) (92 ∷ []) ≡ lexed 0 (in_quotes q ps) []
lexed-end_backslash q ps k = lexed_step (in_quotes q ps) 92 [] (quotes_backslash q ps []) (quotes_step-backslash q ps [] k)

pub lexed-escaped_plain : (q : ℕ) (ps : List Piece) (c : ℕ) (bs : List ℕ) → is_quote q ≡ true → 128 ≤ c → lexed 0 (in_quotes q ps) (92 ∷ c ∷ bs) ≡ lexed 0 (in_quotes q ps) (c ∷ bs)
lexed-escaped_plain q ps c bs k h =
    lexed-escaped q ps c bs k ∙ sym (lexed_step (in_quotes q ps) c bs (on [] 0 (in_quotes q (ps ++ byte c ∷ []))) (plain_takes q ps c bs (beyond_ascii_is_plain q c k h)))

-- a text by its first byte
pub first_is : (bs : List ℕ) (b : ℕ) → 0 < length bs → slice_index bs 0 ≡ b → bs ≡ b ∷ drop 1 bs
first_is [] b h e = absurd (omega (arith, h))
first_is (c ∷ bs) b h e = ap (λ v. v ∷ bs) e

-- quotes with bytes alone that stand for themselves
pub lexed-quoted : (q : ℕ) (bs : List ℕ) → prefix_len (is_plain q) bs < length bs → slice_index bs (prefix_len (is_plain q) bs) ≡ q
    → lexed 0 (in_quotes q []) bs ≡ quoted (bytes_of (take (prefix_len (is_plain q) bs) bs)) ∷ raw_tokens (drop (prefix_len (is_plain q) bs + 1) bs)
lexed-quoted q bs h e =
    let n : ℕ = prefix_len (is_plain q) bs in
    let closing : drop n bs ≡ q ∷ drop (n + 1) bs = drop-cons bs n 0 h ∙ (λ i. e i ∷ drop (sym (add-one n) i) bs) in
    lexed-plain_run q [] bs ∙ ap (lexed 0 (in_quotes q (bytes_of (take n bs)))) closing ∙ quotes_end q (bytes_of (take n bs)) (drop (n + 1) bs)

-- an operator at the beginning, whose last byte is at n
pub raw_tokens-operator : (bs : List ℕ) (o : Operator) (n : ℕ) → 0 < length bs → is_blank (slice_index bs 0) ≡ false → begins_word bs ≡ false
    → sign_step (slice_index bs 0) (drop 1 bs) ≡ on (operator o ∷ []) n between → raw_tokens bs ≡ operator o ∷ raw_tokens (drop (n + 1) bs)
raw_tokens-operator [] o n some blank begins e = absurd (omega (arith, some))
raw_tokens-operator (b ∷ bs) o n some blank begins e =
    let parts = or_parts (is_word b) (eqb b 36) begins in
    lexed_step between b bs (on (operator o ∷ []) n between) ((λ i. between_by (blank i) (parts.0 i) (parts.1 i) b bs) ∙ e)
    ∙ ap (λ ts. operator o ∷ ts) (lexed-drop n between bs ∙ ap (λ k. raw_tokens (drop k (b ∷ bs))) (sym (add-one n)))

-- behind the bytes of a word only a dollar goes on with it
stops_at : (bs : List ℕ) → (0 < length bs → is_word (slice_index bs 0) ≡ false) → begins_with 36 bs ≡ false → begins_word bs ≡ false
stops_at [] h e = refl
stops_at (b ∷ bs) h e = rw (h (omega arith), e) refl

pub word_run_ends : (bs : List ℕ) → begins_with 36 (drop (prefix_len is_word bs) bs) ≡ false → begins_word (drop (prefix_len is_word bs) bs) ≡ false
word_run_ends bs e = stops_at (drop (prefix_len is_word bs) bs) (first_past_run is_word bs) e
