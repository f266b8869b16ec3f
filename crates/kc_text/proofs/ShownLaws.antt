-- What a line shows is what is written in it, and so are the parts of a variable's text.
use Rattle.std.proofs.Common.{◌≡◌, ℕ, zero, suc, ◌<◌, ◌≤◌, Bool, true, false, true≢false, cond, eqb, eqb-true, not, ◌||◌, ◌&&◌, List, [], ◌∷◌, ◌++◌, Option, Some, None, length, take, drop, subst, ⊎_elim, refl, sym, ap, ◌∙◌, append_assoc, take-append-drop, length-append, length-drop, arith}
use Rattle.std.specs.List.{list_all, prefix_len}
use Rattle.std.proofs.lemmas.Bool.{and_parts, and_from, or_parts, or_cases, false≢true}
use Rattle.std.proofs.lemmas.Bool.Decides.{nat_tests}
use Rattle.std.proofs.lemmas.List.{append-nil}
use Rattle.std.proofs.lemmas.Option.{none-some, cond_some}
use Rattle.kc_text.specs.declared.line.Operator.{Operator}
use Rattle.kc_text.specs.declared.line.Operator.TheVariants.{And, Or, Equal, NotEqual, Less, LessOrEqual, Greater, GreaterOrEqual, Not, Open, Close}
use Rattle.kc_text.specs.Bytes.{begins_with, is_blank, is_word, is_name}
use Rattle.kc_text.specs.References.{Piece, byte, reference, malformed, is_referable, leading_name, reference_after_dollar, reference_len, value_pieces}
use Rattle.kc_text.specs.Lexing.{Raw, word, quoted, operator, unclosed, not_allowed, between, in_word, in_quotes, Step, on, stop, is_quote, begins_word, one_or_two, is_plain, lexed, raw_tokens}
use Rattle.kc_text.specs.Shown.{is_name_in, written, AreWordParts, AreQuotedParts, AreValueParts, sign_bytes, is_longest, begins_sign, begins_token, Shows, ends, comment, blank, a_word, bad_word, a_text, open_text, open_escape, bad_text, a_sign, bad}
use Rattle.kc_text.specs.ValueLaw.{ValueLaw}
use Rattle.kc_text.proofs.Runs.{prefix_len-yes, prefix_len-no}
use Rattle.kc_text.proofs.References.{value_pieces_by, after_value_dollar, value_pieces_from-drop}
use Rattle.kc_text.proofs.Lexing.{lexed_step, after_step, blank_takes, word_takes, plain_takes, between_by, word_begins, word_ends, lexed-word_reference, lexed-word_malformed, quotes_end, lexed-quotes_reference, lexed-quotes_malformed, lexed-escaped, lexed-end_backslash}

-- a test with what follows from it
by_test : {P : Type 0} (b : Bool) → (b ≡ true → P) → (b ≡ false → P) → P
by_test true holds fails = holds refl
by_test false holds fails = fails refl

-- a reference as it is written, and what comes after it
abbrev opened : List ℕ → List ℕ → List ℕ
opened name w = 40 ∷ ((name ++ 41 ∷ []) ++ w)

-- the bytes of a name end at its parenthesis
name_ends : (name w : List ℕ) → list_all is_name name ≡ true → prefix_len is_name (name ++ 41 ∷ w) ≡ length name
name_ends [] w all = refl
name_ends (b ∷ name) w all =
    let parts = and_parts (is_name b) (list_all is_name name) all in
    prefix_len-yes is_name b (name ++ 41 ∷ w) parts.0 ∙ ap suc (name_ends name w parts.1)

name_taken : (name w : List ℕ) → take (length name) (name ++ w) ≡ name
name_taken [] w = refl
name_taken (b ∷ name) w = ap (λ v. b ∷ v) (name_taken name w)

name_passed : (name w : List ℕ) → drop (length name) (name ++ w) ≡ w
name_passed [] w = refl
name_passed (b ∷ name) w = name_passed name w

abbrev reference_by : ℕ → List ℕ → Option (List ℕ)
reference_by n bs = cond (begins_with 41 (drop n bs) && is_referable (take n bs)) (Some (take n bs)) None

abbrev reference_of : Bool → List ℕ → Option (List ℕ)
reference_of v name = cond v (Some name) None

-- a reference as it is written is found after its dollar
reference_reads : (name w : List ℕ) → is_name_in name ≡ true → reference_after_dollar (opened name w) ≡ Some name
reference_reads name w is =
    let parts = and_parts (list_all is_name name) (is_referable name) is in
    let at = append_assoc name (41 ∷ []) w in
    let len = ap (prefix_len is_name) at ∙ name_ends name w parts.0 in
    (λ i. reference_by (len i) (at i))
    ∙ (λ i. reference_of (begins_with 41 (name_passed name (41 ∷ w) i) && is_referable (name_taken name (41 ∷ w) i)) (name_taken name (41 ∷ w) i))
    ∙ ap (λ v. reference_of v name) parts.1

reference_passed : (name w : List ℕ) → drop (reference_len name) (opened name w) ≡ w
reference_passed name w =
    let len : reference_len name ≡ suc (length (name ++ 41 ∷ [])) = omega (arith, length-append name (41 ∷ [])) in
    ap (λ n. drop n (opened name w)) len ∙ name_passed (name ++ 41 ∷ []) w

-- the longest name at the beginning has bytes of a name alone
leading_all : (bs : List ℕ) → list_all is_name (leading_name bs) ≡ true
leading_all [] = refl
leading_all (b ∷ bs) =
    by_test (is_name b)
    (λ e. ap (λ k. list_all is_name (take k (b ∷ bs))) (prefix_len-yes is_name b bs e) ∙ and_from (is_name b) (list_all is_name (leading_name bs)) e (leading_all bs))
    (λ e. ap (λ k. list_all is_name (take k (b ∷ bs))) (prefix_len-no is_name b bs e))

-- bytes that begin with a byte
begins_is : (c : ℕ) (bs : List ℕ) → begins_with c bs ≡ true → bs ≡ c ∷ drop 1 bs
begins_is c [] e = absurd (false≢true e)
begins_is c (b ∷ bs) e = ap (λ v. v ∷ bs) (eqb-true b c e)

-- bytes that are a reference without its dollar, and then others
abbrev IsOpened : List ℕ → List ℕ → Type 0
IsOpened bs name = (w : List ℕ) × (bs ≡ opened name w) × (is_name_in name ≡ true)

-- what is found after a dollar is a reference as it is written
reference_is : (bs name : List ℕ) → reference_after_dollar bs ≡ Some name → IsOpened bs name
reference_is [] name e = absurd (none-some name e)
reference_is (b ∷ bs) name e =
    let lead : List ℕ = leading_name bs in
    let left : List ℕ = drop (prefix_len is_name bs) bs in
    let found = cond_some (eqb b 40 && (begins_with 41 left && is_referable lead)) lead name e in
    let outer = and_parts (eqb b 40) (begins_with 41 left && is_referable lead) found.0 in
    let inner = and_parts (begins_with 41 left) (is_referable lead) outer.1 in
    let cut : bs ≡ (lead ++ 41 ∷ []) ++ drop 1 left =
    sym (take-append-drop (prefix_len is_name bs) bs) ∙ ap (λ v. lead ++ v) (begins_is 41 left inner.0) ∙ sym (append_assoc lead (41 ∷ []) (drop 1 left)) in
    let is : IsOpened (b ∷ bs) lead = (drop 1 left, (λ i. eqb-true b 40 outer.0 i ∷ cut i), and_from (list_all is_name lead) (is_referable lead) (leading_all bs) inner.1) in
    subst (IsOpened (b ∷ bs)) found.1 is

-- what comes after a reference is shorter
shorter : (name w bs : List ℕ) → bs ≡ opened name w → length w < length bs
shorter name w bs e = omega (arith, ap length e, length-append (name ++ 41 ∷ []) w)

-- the parts of a word are read one after the other
word_run : {ps : List Piece} {w : List ℕ} → AreWordParts ps w → (qs : List Piece) (bs : List ℕ) → lexed 0 (in_word qs) (w ++ bs) ≡ lexed 0 (in_word (qs ++ ps)) bs
word_run AreWordParts.no_parts qs bs = ap (λ v. lexed 0 (in_word v) bs) (sym (append-nil qs))
word_run (AreWordParts.of_byte {b = b} {ps = ps} {w = w} e parts) qs bs =
    lexed_step (in_word qs) b (w ++ bs) (on [] 0 (in_word (qs ++ byte b ∷ []))) (word_takes qs b (w ++ bs) e)
    ∙ word_run parts (qs ++ byte b ∷ []) bs ∙ ap (λ v. lexed 0 (in_word v) bs) (append_assoc qs (byte b ∷ []) ps)
word_run (AreWordParts.of_name {name = name} {ps = ps} {w = w} e parts) qs bs =
    ap (lexed 0 (in_word qs)) (append_assoc (written name) w bs)
    ∙ lexed-word_reference qs (opened name (w ++ bs)) name (reference_reads name (w ++ bs) e)
    ∙ ap (lexed 0 (in_word (qs ++ reference name ∷ []))) (reference_passed name (w ++ bs))
    ∙ word_run parts (qs ++ reference name ∷ []) bs ∙ ap (λ v. lexed 0 (in_word v) bs) (append_assoc qs (reference name ∷ []) ps)

-- the parts in quotes are read one after the other
quote_run : (q : ℕ) → is_quote q ≡ true → {ps : List Piece} {w : List ℕ} → AreQuotedParts q ps w → (qs : List Piece) (bs : List ℕ) → lexed 0 (in_quotes q qs) (w ++ bs) ≡ lexed 0 (in_quotes q (qs ++ ps)) bs
quote_run q k AreQuotedParts.no_parts qs bs = ap (λ v. lexed 0 (in_quotes q v) bs) (sym (append-nil qs))
quote_run q k (AreQuotedParts.of_byte {b = b} {ps = ps} {w = w} e parts) qs bs =
    lexed_step (in_quotes q qs) b (w ++ bs) (on [] 0 (in_quotes q (qs ++ byte b ∷ []))) (plain_takes q qs b (w ++ bs) e)
    ∙ quote_run q k parts (qs ++ byte b ∷ []) bs ∙ ap (λ v. lexed 0 (in_quotes q v) bs) (append_assoc qs (byte b ∷ []) ps)
quote_run q k (AreQuotedParts.escaped {b = b} {ps = ps} {w = w} parts) qs bs =
    lexed-escaped q qs b (w ++ bs) k
    ∙ quote_run q k parts (qs ++ byte b ∷ []) bs ∙ ap (λ v. lexed 0 (in_quotes q v) bs) (append_assoc qs (byte b ∷ []) ps)
quote_run q k (AreQuotedParts.of_name {name = name} {ps = ps} {w = w} e parts) qs bs =
    ap (lexed 0 (in_quotes q qs)) (append_assoc (written name) w bs)
    ∙ lexed-quotes_reference q qs (opened name (w ++ bs)) name k (reference_reads name (w ++ bs) e)
    ∙ ap (lexed 0 (in_quotes q (qs ++ reference name ∷ []))) (reference_passed name (w ++ bs))
    ∙ quote_run q k parts (qs ++ reference name ∷ []) bs ∙ ap (λ v. lexed 0 (in_quotes q v) bs) (append_assoc qs (reference name ∷ []) ps)

-- a word begins with a byte of a word or with a dollar
some_begin : {ps : List Piece} {w : List ℕ} → 0 < length ps → AreWordParts ps w → (bs : List ℕ) → begins_word (w ++ bs) ≡ true
some_begin some AreWordParts.no_parts bs = absurd (omega (arith, some))
some_begin some (AreWordParts.of_byte {b = b} e parts) bs = ap (λ v. v || eqb b 36) e
some_begin some (AreWordParts.of_name e parts) bs = refl

dollar_begins : {ps : List Piece} {w : List ℕ} → AreWordParts ps w → (bs : List ℕ) → begins_word (w ++ 36 ∷ bs) ≡ true
dollar_begins AreWordParts.no_parts bs = refl
dollar_begins (AreWordParts.of_byte {b = b} e parts) bs = ap (λ v. v || eqb b 36) e
dollar_begins (AreWordParts.of_name e parts) bs = refl

-- a quote begins a text
module _ (q : ℕ) (k : is_quote q ≡ true) where
  pub quote_not_blank : is_blank q ≡ false
  quote_not_blank = grind (arith, nat_tests)

  quote_no_word : is_word q ≡ false
  quote_no_word = grind (arith, nat_tests)

  quote_no_dollar : eqb q 36 ≡ false
  quote_no_dollar = grind (arith, nat_tests)

  pub quote_opens : (bs : List ℕ) → raw_tokens (q ∷ bs) ≡ lexed 0 (in_quotes q []) bs
  quote_opens bs =
      lexed_step between q bs (on [] 0 (in_quotes q []))
      ((λ i. between_by (quote_not_blank i) (quote_no_word i) (quote_no_dollar i) q bs) ∙ rw k refl)

-- an operator that is as long as it can be
abbrev sign_by : Operator → ℕ → Operator → ℕ → List ℕ → Bool → List Raw
sign_by one n two m bs longer = after_step (cond longer (on (operator two ∷ []) m between) (on (operator one ∷ []) n between)) bs

not_longer : (bs : List ℕ) → not (begins_with 61 bs) ≡ true → begins_with 61 bs ≡ false
not_longer bs e = grind (arith, nat_tests)

sign_shows : (o : Operator) (bs : List ℕ) → is_longest o bs ≡ true → raw_tokens (sign_bytes o ++ bs) ≡ operator o ∷ raw_tokens bs
sign_shows And bs e = refl
sign_shows Or bs e = refl
sign_shows Equal bs e = refl
sign_shows NotEqual bs e = refl
sign_shows Less bs e = ap (sign_by Less 0 LessOrEqual 1 bs) (not_longer bs e)
sign_shows LessOrEqual bs e = refl
sign_shows Greater bs e = ap (sign_by Greater 0 GreaterOrEqual 1 bs) (not_longer bs e)
sign_shows GreaterOrEqual bs e = refl
sign_shows Not bs e = ap (sign_by Not 0 NotEqual 1 bs) (not_longer bs e)
sign_shows Open bs e = refl
sign_shows Close bs e = refl

-- what a byte that is in no word does, by ten tests
abbrev signs_by : Bool → Bool → Bool → Bool → Bool → Bool → Bool → Bool → Bool → Bool → ℕ → List ℕ → Step
signs_by quotes starts_comment two_and two_or is_not less greater equal opens closes b bs =
    cond quotes (on [] 0 (in_quotes b []))
    (cond starts_comment (stop [])
    (cond two_and (on (operator And ∷ []) 1 between)
    (cond two_or (on (operator Or ∷ []) 1 between)
    (cond is_not (one_or_two Not NotEqual 61 bs)
    (cond less (one_or_two Less LessOrEqual 61 bs)
    (cond greater (one_or_two Greater GreaterOrEqual 61 bs)
    (cond equal (on (operator Equal ∷ []) 0 between)
    (cond opens (on (operator Open ∷ []) 0 between)
    (cond closes (on (operator Close ∷ []) 0 between)
    (stop (not_allowed ∷ [])))))))))))

-- a byte that begins nothing
bad_shows : (b : ℕ) (bs : List ℕ) → begins_token b bs ≡ false → raw_tokens (b ∷ bs) ≡ not_allowed ∷ []
bad_shows b bs e =
    let blank_or = or_parts (is_blank b) _ e in
    let word_or = or_parts (begins_word (b ∷ bs)) _ blank_or.1 in
    let dollar = or_parts (is_word b) (eqb b 36) word_or.0 in
    let quote_or = or_parts (is_quote b) _ word_or.1 in
    let comment_or = or_parts (eqb b 35) _ quote_or.1 in
    let and_or = or_parts (eqb b 38 && begins_with 38 bs) _ comment_or.1 in
    let or_or = or_parts (eqb b 124 && begins_with 124 bs) _ and_or.1 in
    let not_or = or_parts (eqb b 33) _ or_or.1 in
    let less_or = or_parts (eqb b 60) _ not_or.1 in
    let greater_or = or_parts (eqb b 62) _ less_or.1 in
    let equal_or = or_parts (eqb b 61) _ greater_or.1 in
    let open_or = or_parts (eqb b 40) (eqb b 41) equal_or.1 in
    lexed_step between b bs (stop (not_allowed ∷ []))
    ((λ i. between_by (blank_or.0 i) (dollar.0 i) (dollar.1 i) b bs)
    ∙ (λ i. signs_by (quote_or.0 i) (comment_or.0 i) (and_or.0 i) (or_or.0 i) (not_or.0 i) (less_or.0 i) (greater_or.0 i) (equal_or.0 i) (open_or.0 i) (open_or.1 i) b bs))

-- a line shows nothing but what is written in it
pub only_shown : {line : List ℕ} {rs : List Raw} → Shows line rs → raw_tokens line ≡ rs
only_shown ends = refl
only_shown comment = refl
only_shown (blank {b = b} {bs = bs} e more) = lexed_step between b bs (on [] 0 between) (blank_takes [] b bs e) ∙ only_shown more
only_shown (a_word {ps = ps} {w = w} {bs = bs} some parts over more) =
    word_begins (w ++ bs) (some_begin some parts bs) ∙ word_run parts [] bs ∙ word_ends ps bs over ∙ ap (λ rs. word ps ∷ rs) (only_shown more)
only_shown (bad_word {ps = ps} {w = w} bs parts e) =
    word_begins (w ++ 36 ∷ bs) (dollar_begins parts bs) ∙ word_run parts [] (36 ∷ bs) ∙ lexed-word_malformed ps bs e
only_shown (a_text {q = q} {ps = ps} {w = w} {bs = bs} k parts more) =
    quote_opens q k (w ++ q ∷ bs) ∙ quote_run q k parts [] (q ∷ bs) ∙ quotes_end q ps bs ∙ ap (λ rs. quoted ps ∷ rs) (only_shown more)
only_shown (open_text {q = q} {ps = ps} {w = w} k parts) =
    quote_opens q k w ∙ ap (lexed 0 (in_quotes q [])) (sym (append-nil w)) ∙ quote_run q k parts [] []
only_shown (open_escape {q = q} {ps = ps} {w = w} k parts) =
    quote_opens q k (w ++ 92 ∷ []) ∙ quote_run q k parts [] (92 ∷ []) ∙ lexed-end_backslash q ps k
only_shown (bad_text {q = q} {ps = ps} {w = w} bs k parts e) =
    quote_opens q k (w ++ 36 ∷ bs) ∙ quote_run q k parts [] (36 ∷ bs) ∙ lexed-quotes_malformed q ps bs k e
only_shown (a_sign {o = o} {bs = bs} e more) = sign_shows o bs e ∙ ap (λ rs. operator o ∷ rs) (only_shown more)
only_shown (bad {b = b} {bs = bs} e) = bad_shows b bs e

-- only these parts of a variable's text are written so
only_parts : {ps : List Piece} {text : List ℕ} → AreValueParts ps text → value_pieces text ≡ ps
only_parts AreValueParts.no_parts = refl
only_parts (AreValueParts.of_byte {b = b} {w = w} e parts) = ap (λ v. value_pieces_by v b w) e ∙ ap (λ ps. byte b ∷ ps) (only_parts parts)
only_parts (AreValueParts.of_name {name = name} {w = w} e parts) =
    ap (λ found. after_value_dollar found (opened name w)) (reference_reads name w e)
    ∙ ap (λ ps. reference name ∷ ps) (value_pieces_from-drop (reference_len name) (opened name w) ∙ ap value_pieces (reference_passed name w) ∙ only_parts parts)
only_parts (AreValueParts.bad bs e) = ap (λ found. after_value_dollar found bs) e

-- a word as far as it goes, and a dollar that breaks it off
data WordSplit : List ℕ → Type 0 where
  over : {ps : List Piece} {w : List ℕ} (bs : List ℕ) → AreWordParts ps w → begins_word bs ≡ false → WordSplit (w ++ bs)
  broken : {ps : List Piece} {w : List ℕ} (bs : List ℕ) → AreWordParts ps w → reference_after_dollar bs ≡ None → WordSplit (w ++ 36 ∷ bs)

word_byte : (b : ℕ) {bs : List ℕ} → is_word b ≡ true → WordSplit bs → WordSplit (b ∷ bs)
word_byte b e (over bs parts stops) = over bs (AreWordParts.of_byte e parts) stops
word_byte b e (broken bs parts none) = broken bs (AreWordParts.of_byte e parts) none

word_name : (name : List ℕ) {bs : List ℕ} → is_name_in name ≡ true → WordSplit bs → WordSplit (written name ++ bs)
word_name name e (over {w = w} bs parts stops) = subst WordSplit (append_assoc (written name) w bs) (over bs (AreWordParts.of_name e parts) stops)
word_name name e (broken {w = w} bs parts none) = subst WordSplit (append_assoc (written name) w (36 ∷ bs)) (broken bs (AreWordParts.of_name e parts) none)

word_dollar_split : (bs : List ℕ) (found : Option (List ℕ)) → reference_after_dollar bs ≡ found → ((cs : List ℕ) → length cs < length bs → WordSplit cs) → WordSplit (36 ∷ bs)
word_dollar_split bs None e deeper = broken bs AreWordParts.no_parts e
word_dollar_split bs (Some name) e deeper =
    let is = reference_is bs name e in
    subst (λ v. WordSplit (36 ∷ v)) (sym is.1) (word_name name is.2 (deeper is.0 (shorter name is.0 bs is.1)))

word_split : (n : ℕ) (bs : List ℕ) → length bs ≤ n → WordSplit bs
word_split n [] h = over [] AreWordParts.no_parts refl
word_split zero (b ∷ bs) h = absurd (omega (arith, h))
word_split (suc n) (b ∷ bs) h =
    by_test (is_word b) (λ e. word_byte b e (word_split n bs (omega (arith, h))))
    (λ e. by_test (eqb b 36)
    (λ d. subst (λ v. WordSplit (v ∷ bs)) (sym (eqb-true b 36 d)) (word_dollar_split bs (reference_after_dollar bs) refl (λ cs less. word_split n cs (omega (arith, h, less)))))
    (λ d. over (b ∷ bs) AreWordParts.no_parts (λ i. e i || d i)))

-- a text in quotes up to what ends it
data QuoteSplit (q : ℕ) : List ℕ → Type 0 where
  closed : {ps : List Piece} {w : List ℕ} (bs : List ℕ) → AreQuotedParts q ps w → QuoteSplit q (w ++ q ∷ bs)
  not_closed : {ps : List Piece} {w : List ℕ} → AreQuotedParts q ps w → QuoteSplit q w
  at_backslash : {ps : List Piece} {w : List ℕ} → AreQuotedParts q ps w → QuoteSplit q (w ++ 92 ∷ [])
  at_dollar : {ps : List Piece} {w : List ℕ} (bs : List ℕ) → AreQuotedParts q ps w → reference_after_dollar bs ≡ None → QuoteSplit q (w ++ 36 ∷ bs)

module _ (q : ℕ) where
  quote_byte : (b : ℕ) {bs : List ℕ} → is_plain q b ≡ true → QuoteSplit q bs → QuoteSplit q (b ∷ bs)
  quote_byte b e (closed bs parts) = closed bs (AreQuotedParts.of_byte e parts)
  quote_byte b e (not_closed parts) = not_closed (AreQuotedParts.of_byte e parts)
  quote_byte b e (at_backslash parts) = at_backslash (AreQuotedParts.of_byte e parts)
  quote_byte b e (at_dollar bs parts none) = at_dollar bs (AreQuotedParts.of_byte e parts) none

  quote_escaped : (b : ℕ) {bs : List ℕ} → QuoteSplit q bs → QuoteSplit q (92 ∷ b ∷ bs)
  quote_escaped b (closed bs parts) = closed bs (AreQuotedParts.escaped parts)
  quote_escaped b (not_closed parts) = not_closed (AreQuotedParts.escaped parts)
  quote_escaped b (at_backslash parts) = at_backslash (AreQuotedParts.escaped parts)
  quote_escaped b (at_dollar bs parts none) = at_dollar bs (AreQuotedParts.escaped parts) none

  quote_name : (name : List ℕ) {bs : List ℕ} → is_name_in name ≡ true → QuoteSplit q bs → QuoteSplit q (written name ++ bs)
  quote_name name e (closed {w = w} bs parts) = subst (QuoteSplit q) (append_assoc (written name) w (q ∷ bs)) (closed bs (AreQuotedParts.of_name e parts))
  quote_name name e (not_closed parts) = not_closed (AreQuotedParts.of_name e parts)
  quote_name name e (at_backslash {w = w} parts) = subst (QuoteSplit q) (append_assoc (written name) w (92 ∷ [])) (at_backslash (AreQuotedParts.of_name e parts))
  quote_name name e (at_dollar {w = w} bs parts none) = subst (QuoteSplit q) (append_assoc (written name) w (36 ∷ bs)) (at_dollar bs (AreQuotedParts.of_name e parts) none)

  quote_dollar_split : (bs : List ℕ) (found : Option (List ℕ)) → reference_after_dollar bs ≡ found → ((cs : List ℕ) → length cs < length bs → QuoteSplit q cs) → QuoteSplit q (36 ∷ bs)
  quote_dollar_split bs None e deeper = at_dollar bs AreQuotedParts.no_parts e
  quote_dollar_split bs (Some name) e deeper =
      let is = reference_is bs name e in
      subst (λ v. QuoteSplit q (36 ∷ v)) (sym is.1) (quote_name name is.2 (deeper is.0 (shorter name is.0 bs is.1)))

  quote_backslash_split : (bs : List ℕ) → ((cs : List ℕ) → length cs < length bs → QuoteSplit q cs) → QuoteSplit q (92 ∷ bs)
  quote_backslash_split [] deeper = at_backslash AreQuotedParts.no_parts
  quote_backslash_split (b ∷ bs) deeper = quote_escaped b (deeper bs (omega arith))

  -- a byte that is not plain is the quote, a backslash or a dollar
  dollar_left : (b : ℕ) → is_plain q b ≡ false → eqb b q ≡ false → eqb b 92 ≡ false → 36 ≡ b
  dollar_left b plain closes escapes = grind (arith, nat_tests)

  quote_split : (n : ℕ) (bs : List ℕ) → length bs ≤ n → QuoteSplit q bs
  quote_split n [] h = not_closed AreQuotedParts.no_parts
  quote_split zero (b ∷ bs) h = absurd (omega (arith, h))
  quote_split (suc n) (b ∷ bs) h =
      by_test (is_plain q b) (λ plain. quote_byte b plain (quote_split n bs (omega (arith, h))))
      (λ plain. by_test (eqb b q) (λ closes. subst (λ v. QuoteSplit q (v ∷ bs)) (sym (eqb-true b q closes)) (closed bs AreQuotedParts.no_parts))
      (λ closes. by_test (eqb b 92)
      (λ escapes. subst (λ v. QuoteSplit q (v ∷ bs)) (sym (eqb-true b 92 escapes)) (quote_backslash_split bs (λ cs less. quote_split n cs (omega (arith, h, less)))))
      (λ escapes. subst (λ v. QuoteSplit q (v ∷ bs)) (dollar_left b plain closes escapes)
      (quote_dollar_split bs (reference_after_dollar bs) refl (λ cs less. quote_split n cs (omega (arith, h, less)))))))

-- what a line shows, found from its beginning on, where what fewer bytes show is known
abbrev Found : List ℕ → Type 0
Found line = (rs : List Raw) × Shows line rs

abbrev Deeper : ℕ → Type 0
Deeper n = (cs : List ℕ) → length cs ≤ n → Found cs

some_parts : {ps : List Piece} {w : List ℕ} (bs : List ℕ) → AreWordParts ps w → begins_word (w ++ bs) ≡ true → begins_word bs ≡ false → (0 < length ps) × (0 < length w)
some_parts bs AreWordParts.no_parts begins stops = absurd (true≢false (sym begins ∙ stops))
some_parts bs (AreWordParts.of_byte e parts) begins stops = (omega arith, omega arith)
some_parts bs (AreWordParts.of_name e parts) begins stops = (omega arith, omega arith)

word_found : {line : List ℕ} (n : ℕ) → length line ≤ suc n → begins_word line ≡ true → Deeper n → WordSplit line → Found line
word_found n h begins deeper (over {ps = ps} {w = w} bs parts stops) =
    let some = some_parts bs parts begins stops in
    let rest = deeper bs (omega (arith, h, some.1, length-append w bs)) in
    (word ps ∷ rest.0, a_word some.0 parts stops rest.1)
word_found n h begins deeper (broken {ps = ps} bs parts none) = (word (ps ++ malformed ∷ []) ∷ [], bad_word bs parts none)

quote_found : (q : ℕ) {bs : List ℕ} (n : ℕ) → length bs ≤ n → is_quote q ≡ true → Deeper n → QuoteSplit q bs → Found (q ∷ bs)
quote_found q n h k deeper (closed {ps = ps} {w = w} bs parts) =
    let rest = deeper bs (omega (arith, h, length-append w (q ∷ bs))) in
    (quoted ps ∷ rest.0, a_text k parts rest.1)
quote_found q n h k deeper (not_closed {ps = ps} parts) = (unclosed ps ∷ [], open_text k parts)
quote_found q n h k deeper (at_backslash {ps = ps} parts) = (unclosed ps ∷ [], open_escape k parts)
quote_found q n h k deeper (at_dollar {ps = ps} bs parts none) = (unclosed (ps ++ malformed ∷ []) ∷ [], bad_text bs k parts none)

-- an operator, of one byte, or of two where the second follows
sign_found : (o : Operator) (bs : List ℕ) → is_longest o bs ≡ true → Found bs → Found (sign_bytes o ++ bs)
sign_found o bs e rest = (operator o ∷ rest.0, a_sign {o = o} e rest.1)

at_byte : {bs : List ℕ} (b c : ℕ) → eqb b c ≡ true → Found (c ∷ bs) → Found (b ∷ bs)
at_byte {bs} b c e found = subst (λ v. Found (v ∷ bs)) (sym (eqb-true b c e)) found

at_second : (b c : ℕ) (bs : List ℕ) → begins_with c bs ≡ true → Found (b ∷ c ∷ drop 1 bs) → Found (b ∷ bs)
at_second b c bs e found = subst (λ v. Found (b ∷ v)) (sym (begins_is c bs e)) found

module _ (b : ℕ) (bs : List ℕ) (deeper : Deeper (length bs)) where
  here : Found bs
  here = deeper bs (omega arith)

  after_next : Found (drop 1 bs)
  after_next = deeper (drop 1 bs) (omega (arith, length-drop 1 bs))

  -- two bytes that are an operator together
  both_found : (o : Operator) (c d : ℕ) → sign_bytes o ≡ c ∷ d ∷ [] → is_longest o (drop 1 bs) ≡ true → (eqb b c && begins_with d bs) ≡ true → Found (b ∷ bs)
  both_found o c d is longest e =
      let parts = and_parts (eqb b c) (begins_with d bs) e in
      at_byte b c parts.0 (at_second c d bs parts.1 (subst (λ v. Found (v ++ drop 1 bs)) is (sign_found o (drop 1 bs) longest after_next)))

  -- a byte that is an operator, and another one with `=` after it
  longer_found : (one two : Operator) (c : ℕ) → sign_bytes one ≡ c ∷ [] → sign_bytes two ≡ c ∷ 61 ∷ []
      → ((begins_with 61 bs ≡ false) → is_longest one bs ≡ true) → is_longest two (drop 1 bs) ≡ true → eqb b c ≡ true → Found (b ∷ bs)
  longer_found one two c is_one is_two longest longest_two e =
      at_byte b c e
      (by_test (begins_with 61 bs)
      (λ more. at_second c 61 bs more (subst (λ v. Found (v ++ drop 1 bs)) is_two (sign_found two (drop 1 bs) longest_two after_next)))
      (λ alone. subst (λ v. Found (v ++ bs)) is_one (sign_found one bs (longest alone) here)))

  one_found : (o : Operator) (c : ℕ) → sign_bytes o ≡ c ∷ [] → is_longest o bs ≡ true → eqb b c ≡ true → Found (b ∷ bs)
  one_found o c is longest e = at_byte b c e (subst (λ v. Found (v ++ bs)) is (sign_found o bs longest here))

  sign_step_found : begins_sign b bs ≡ true → Found (b ∷ bs)
  sign_step_found e =
      ⊎_elim (both_found And 38 38 refl refl)
      (λ e. ⊎_elim (both_found Or 124 124 refl refl)
      (λ e. ⊎_elim (longer_found Not NotEqual 33 refl refl (ap not) refl)
      (λ e. ⊎_elim (longer_found Less LessOrEqual 60 refl refl (ap not) refl)
      (λ e. ⊎_elim (longer_found Greater GreaterOrEqual 62 refl refl (ap not) refl)
      (λ e. ⊎_elim (one_found Equal 61 refl refl)
      (λ e. ⊎_elim (one_found Open 40 refl refl) (one_found Close 41 refl refl)
      (or_cases (eqb b 40) (eqb b 41) e))
      (or_cases (eqb b 61) _ e))
      (or_cases (eqb b 62) _ e))
      (or_cases (eqb b 60) _ e))
      (or_cases (eqb b 33) _ e))
      (or_cases (eqb b 124 && begins_with 124 bs) _ e))
      (or_cases (eqb b 38 && begins_with 38 bs) _ e)

  line_step : Found (b ∷ bs)
  line_step =
      by_test (is_blank b) (λ e. (here.0, blank e here.1))
      (λ e. by_test (begins_word (b ∷ bs)) (λ begins. word_found (length bs) (omega arith) begins deeper (word_split (suc (length bs)) (b ∷ bs) (omega arith)))
      (λ f. by_test (is_quote b) (λ opens. quote_found b (length bs) (omega arith) opens deeper (quote_split b (length bs) bs (omega arith)))
      (λ g. by_test (eqb b 35) (λ starts. at_byte b 35 starts ([], comment))
      (λ h. by_test (begins_sign b bs) sign_step_found (λ k. (not_allowed ∷ [], bad (λ i. e i || (f i || (g i || (h i || k i))))))))))

line_found : (n : ℕ) (line : List ℕ) → length line ≤ n → Found line
line_found n [] h = ([], ends)
line_found zero (b ∷ bs) h = absurd (omega (arith, h))
line_found (suc n) (b ∷ bs) h = line_step b bs (λ cs k. line_found n cs (omega (arith, h, k)))

-- what a line shows is written in it
pub shown : (line : List ℕ) → Shows line (raw_tokens line)
shown line =
    let found = line_found (length line) line (omega arith) in
    subst (Shows line) (sym (only_shown found.1)) found.1

-- the parts that are written in a variable's text
abbrev PartsFound : List ℕ → Type 0
PartsFound text = (ps : List Piece) × AreValueParts ps text

value_dollar_found : (bs : List ℕ) (found : Option (List ℕ)) → reference_after_dollar bs ≡ found → ((cs : List ℕ) → length cs < length bs → PartsFound cs) → PartsFound (36 ∷ bs)
value_dollar_found bs None e deeper = (malformed ∷ [], AreValueParts.bad bs e)
value_dollar_found bs (Some name) e deeper =
    let is = reference_is bs name e in
    let rest = deeper is.0 (shorter name is.0 bs is.1) in
    subst (λ v. PartsFound (36 ∷ v)) (sym is.1) (reference name ∷ rest.0, AreValueParts.of_name is.2 rest.1)

parts_found : (n : ℕ) (text : List ℕ) → length text ≤ n → PartsFound text
parts_found n [] h = ([], AreValueParts.no_parts)
parts_found zero (b ∷ bs) h = absurd (omega (arith, h))
parts_found (suc n) (b ∷ bs) h =
    by_test (eqb b 36)
    (λ e. subst (λ v. PartsFound (v ∷ bs)) (sym (eqb-true b 36 e)) (value_dollar_found bs (reference_after_dollar bs) refl (λ cs less. parts_found n cs (omega (arith, h, less)))))
    (λ e. let rest = parts_found n bs (omega (arith, h)) in (byte b ∷ rest.0, AreValueParts.of_byte e rest.1))

value_parts : (text : List ℕ) → AreValueParts (value_pieces text) text
value_parts text =
    let found = parts_found (length text) text (omega arith) in
    subst (λ ps. AreValueParts ps text) (sym (only_parts found.1)) found.1

-- what a line shows is what is written in it, and nothing else
pub record ShownLaw : Type 0 where
  pub shown : (line : List ℕ) → Shows line (raw_tokens line)
  pub only_shown : (line : List ℕ) (rs : List Raw) → Shows line rs → raw_tokens line ≡ rs

-- the two laws
pub shown_law : ShownLaw
shown_law = record { shown = shown; only_shown = λ line rs is. only_shown is }

pub value_law : ValueLaw
value_law = record { parts = value_parts; only = λ ps text are. sym (only_parts are) }
