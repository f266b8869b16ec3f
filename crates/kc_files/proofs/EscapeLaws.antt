-- Escaped texts, a character at a time: the bytes of all other characters are neither `"` nor a backslash.
use Rattle.std.proofs.Common.{◌≡◌, ℕ, ◌<◌, Bool, true, false, List, [], ◌∷◌, ◌++◌, suc, length, get_or, encode_utf8, refl, sym, ap, ◌∙◌, arith, append_assoc, append-nil, if◌then◌else◌}
use Rattle.std.proofs.lemmas.Grind.{common_steps}
use Rattle.std.proofs.lemmas.Str.{encode_ascii, inside_one}
use Rattle.kc_files.specs.Quoting.{is_special, escaped_byte, escaped}

pub escaped_append : (xs ys : List ℕ) → escaped (xs ++ ys) ≡ escaped xs ++ escaped ys
escaped_append [] ys = refl
escaped_append (b ∷ bs) ys = ap (λ r. escaped_byte b ++ r) (escaped_append bs ys) ∙ sym (append_assoc (escaped_byte b) (escaped bs) (escaped ys))

pub escaped_empty : (bs : List ℕ) → length bs ≡ 0 → escaped bs ≡ []
escaped_empty [] e = refl
escaped_empty (b ∷ bs) e = absurd (omega (arith, e))

-- no byte needs a backslash
escaped_none : (bs : List ℕ) → ((k : ℕ) → k < length bs → is_special (get_or bs k 0) ≡ false) → escaped bs ≡ bs
escaped_none [] h = refl
escaped_none (b ∷ bs) h =
    ap (λ x. (if x then 92 ∷ b ∷ [] else b ∷ []) ++ escaped bs) (h 0 (omega arith))
    ∙ ap (λ r. b ∷ r) (escaped_none bs (λ k l. h (suc k) (omega (arith, l))))

pub special_ascii : (b : ℕ) → is_special b ≡ true → b < 128
special_ascii b e = grind (arith, common_steps, e)

byte_plain : (x : Bool) (b c : ℕ) → is_special b ≡ x → is_special c ≡ false → (b < 128 → c ≡ b) → is_special b ≡ false
byte_plain false b c e plain same = e
byte_plain true b c e plain same = ap is_special (sym (same (special_ascii b e))) ∙ plain

-- the bytes of a character that needs no backslash
pub plain_bytes : (c : ℕ) → is_special c ≡ false → (k : ℕ) → k < length (encode_utf8 c) → is_special (get_or (encode_utf8 c) k 0) ≡ false
plain_bytes c plain k l =
    let b = get_or (encode_utf8 c) k 0 in
    byte_plain (is_special b) b c refl plain (λ ascii. inside_one c [] (encode_utf8 c) k (sym (append-nil (encode_utf8 c))) l ascii)

pub escaped_plain : (c : ℕ) → is_special c ≡ false → escaped (encode_utf8 c) ≡ encode_utf8 c
escaped_plain c plain = escaped_none (encode_utf8 c) (plain_bytes c plain)

pub escaped_special : (c : ℕ) → is_special c ≡ true → escaped (encode_utf8 c) ≡ 92 ∷ encode_utf8 c
escaped_special c special =
    let one : encode_utf8 c ≡ c ∷ [] = encode_ascii c (special_ascii c special) in
    ap escaped one
    ∙ ap (λ x. (if x then 92 ∷ c ∷ [] else c ∷ []) ++ []) special
    ∙ ap (λ r. 92 ∷ r) (sym one)

-- a character more
pub escaped_char : (c : ℕ) (rest : List ℕ) → escaped (encode_utf8 c ++ rest) ≡ escaped (encode_utf8 c) ++ escaped rest
escaped_char c rest = escaped_append (encode_utf8 c) rest
