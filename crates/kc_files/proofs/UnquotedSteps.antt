-- A text in quotes, read a character at a time.
use Rattle.std.proofs.Common.{◌≡◌, ◌≢◌, ℕ, suc, ◌<◌, ◌==◌, Bool, true, false, ◌&&◌, List, [], ◌∷◌, ◌++◌, length, get_or, encode_utf8, Option, Some, None, if◌then◌else◌, refl, sym, ap, ◌∙◌, append_assoc, append-nil, arith}
use Rattle.std.specs.Prelude.{option_map}
use Rattle.std.proofs.lemmas.Bool.{true≢false, eqb-true, and_parts, or_parts, or_from, false_from_ne_true}
use Rattle.std.proofs.lemmas.Str.{encode_ascii, inside_one, length-encode, len_utf8_bounds}
use Rattle.kc_files.specs.Quoting.{is_special}
use Rattle.kc_files.specs.ReadingSteps.{text_from, unquoted}
use Rattle.kc_files.specs.TextSteps.{is_end, is_escape, begun}
use Rattle.kc_files.proofs.EscapeLaws.{special_ascii, plain_bytes}

same_text : (o : Option (List ℕ)) → option_map (λ w. [] ++ w) o ≡ o
same_text None = refl
same_text (Some w) = refl

two_parts : (xs ys : List ℕ) (o : Option (List ℕ)) → option_map (λ w. xs ++ w) (option_map (λ w. ys ++ w) o) ≡ option_map (λ w. (xs ++ ys) ++ w) o
two_parts xs ys None = refl
two_parts xs ys (Some w) = ap Some (sym (append_assoc xs ys w))

-- bytes that stand for themselves
plain_run : (bs rest : List ℕ) → ((k : ℕ) → k < length bs → is_special (get_or bs k 0) ≡ false)
    → text_from false (bs ++ rest) ≡ option_map (λ w. bs ++ w) (text_from false rest)
plain_run [] rest h = sym (same_text (text_from false rest))
plain_run (b ∷ bs) rest h =
    let plain = or_parts (b == 34) (b == 92) (h 0 (omega arith)) in
    let more = bs ++ rest in
    ap (λ x. if x then Some [] else (if b == 92 then text_from true more else option_map (λ w. b ∷ w) (text_from false more))) plain.0
    ∙ ap (λ x. if x then text_from true more else option_map (λ w. b ∷ w) (text_from false more)) plain.1
    ∙ ap (option_map (λ w. b ∷ w)) (plain_run bs rest (λ k l. h (suc k) (omega (arith, l))))
    ∙ two_parts (b ∷ []) bs (text_from false rest)

-- only the first byte of a character is below 128
rest_plain : (c b : ℕ) (bs : List ℕ) → encode_utf8 c ≡ b ∷ bs → (k : ℕ) → k < length bs → is_special (get_or bs k 0) ≡ false
rest_plain c b bs is k within =
    false_from_ne_true (is_special (get_or bs k 0)) (λ special.
    let below : get_or bs k 0 < 128 = special_ascii (get_or bs k 0) special in
    let inside : suc k < length (encode_utf8 c) = omega (arith, within, ap length is) in
    let same : c ≡ get_or bs k 0 = inside_one c [] (b ∷ bs) (suc k) (sym is ∙ sym (append-nil (encode_utf8 c))) inside below in
    let ascii : c < 128 = omega (arith, same, below) in
    omega (arith, inside, ap length (encode_ascii c ascii)))

-- a character behind a backslash
taken_escaped : (c : ℕ) (es rest : List ℕ) → encode_utf8 c ≡ es → text_from true (es ++ rest) ≡ option_map (λ w. es ++ w) (text_from false rest)
taken_escaped c [] rest is = absurd (omega (arith, ap length is, length-encode c, len_utf8_bounds c))
taken_escaped c (b ∷ bs) rest is =
    ap (option_map (λ w. b ∷ w)) (plain_run bs rest (rest_plain c b bs is)) ∙ two_parts (b ∷ []) bs (text_from false rest)

pub backslash_step : (read : List ℕ) (c : ℕ) (escape : Bool) (rest : List ℕ) → is_escape escape c ≡ true
    → begun read escape (encode_utf8 c ++ rest) ≡ begun read true rest
backslash_step read c true rest h = absurd (true≢false (sym (and_parts (c == 92) false h).1))
backslash_step read c false rest h =
    ap (λ d. begun read false (encode_utf8 d ++ rest)) (eqb-true c 92 (and_parts (c == 92) true h).0)
    ∙ ap (λ bs. begun read false (bs ++ rest)) (encode_ascii 92 (omega arith))

without_true : (b : Bool) → (b && true) ≡ false → b ≡ false
without_true false e = refl
without_true true e = absurd (true≢false e)

taken : (c : ℕ) (escape : Bool) (rest : List ℕ) → is_end escape c ≡ false → is_escape escape c ≡ false
    → text_from escape (encode_utf8 c ++ rest) ≡ option_map (λ w. encode_utf8 c ++ w) (text_from false rest)
taken c true rest inside plain = taken_escaped c (encode_utf8 c) rest refl
taken c false rest inside plain =
    plain_run (encode_utf8 c) rest (plain_bytes c (or_from (c == 34) (c == 92) (without_true (c == 34) inside) (without_true (c == 92) plain)))

pub character_step : (read : List ℕ) (c : ℕ) (escape : Bool) (rest : List ℕ) → is_end escape c ≡ false → is_escape escape c ≡ false
    → begun read escape (encode_utf8 c ++ rest) ≡ begun (read ++ encode_utf8 c) false rest
character_step read c escape rest inside plain =
    ap (option_map (λ w. read ++ w)) (taken c escape rest inside plain) ∙ two_parts read (encode_utf8 c) (text_from false rest)

pub end_step : (read : List ℕ) (c : ℕ) (escape : Bool) (rest : List ℕ) → is_end escape c ≡ true → begun read escape (encode_utf8 c ++ rest) ≡ Some read
end_step read c true rest h = absurd (true≢false (sym (and_parts (c == 34) false h).1))
end_step read c false rest h =
    ap (λ d. begun read false (encode_utf8 d ++ rest)) (eqb-true c 34 (and_parts (c == 34) true h).0)
    ∙ ap (λ bs. begun read false (bs ++ rest)) (encode_ascii 34 (omega arith))
    ∙ ap Some (append-nil read)

pub begun_none : (read : List ℕ) (escape : Bool) (bs : List ℕ) → length bs ≡ 0 → begun read escape bs ≡ None
begun_none read escape [] e = refl
begun_none read escape (b ∷ bs) e = absurd (omega (arith, e))

pub begun_first : (read bs : List ℕ) → read ≡ [] → begun read false bs ≡ text_from false bs
begun_first read bs e = ap (λ w. begun w false bs) e ∙ same_text (text_from false bs)

pub not_quoted : (bs : List ℕ) → ((rest : List ℕ) → bs ≢ 34 ∷ rest) → unquoted bs ≡ None
not_quoted [] h = refl
not_quoted (b ∷ bs) h = ap (λ x. if x then text_from false bs else None) (false_from_ne_true (b == 34) (λ e. h bs (ap (λ x. x ∷ bs) (eqb-true b 34 e))))
