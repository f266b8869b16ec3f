-- A line and a variable's text written out: which tokens and parts have these bytes, by the rules that this project takes
-- from the line format of kconfig-language.rst and from kconfig-macro-language.rst.
use Rattle.std.specs.Prelude.{ℕ, ◌<◌, ◌≡◌, Bool, true, false, not, List, [], ◌∷◌, ◌++◌, length, codes, ◌==◌, ◌||◌, ◌&&◌, None}
use Rattle.std.specs.List.{list_all}
use Rattle.kc_text.specs.declared.line.Operator.{Operator}
use Rattle.kc_text.specs.declared.line.Operator.TheVariants.{And, Or, Equal, NotEqual, Less, LessOrEqual, Greater, GreaterOrEqual, Not, Open, Close}
use Rattle.kc_text.specs.Bytes.{is_blank, is_word, is_name, begins_with}
use Rattle.kc_text.specs.References.{Piece, byte, reference, malformed, is_referable, reference_after_dollar}

-- what a line shows from left to right: its tokens, and the fault at which reading stops
pub data Raw : Type 0 where
  word : List Piece → Raw
  quoted : List Piece → Raw
  operator : Operator → Raw
  -- a quote that the line does not close, with what comes after it
  unclosed : List Piece → Raw
  -- a byte that may not be where it is
  not_allowed : Raw

-- the kinds of quotes
abbrev pub is_quote : ℕ → Bool
is_quote b = b == 34 || b == 39

-- a byte in quotes that is itself
abbrev pub is_plain : ℕ → ℕ → Bool
is_plain q b = not (b == q || (b == 92 || b == 36))

-- whether the bytes begin with a byte of a word, or a dollar
abbrev pub begins_word : List ℕ → Bool
begins_word [] = false
begins_word (b ∷ bs) = is_word b || b == 36

-- a name that a reference may have, of the bytes of a name alone
abbrev pub is_name_in : List ℕ → Bool
is_name_in name = list_all is_name name && is_referable name

-- a reference as it is written: `$(`, its name and `)`
abbrev pub written : List ℕ → List ℕ
written name = 36 ∷ 40 ∷ (name ++ 41 ∷ [])

-- the parts of a word and its bytes
pub data AreWordParts : List Piece → List ℕ → Type 0 where
  no_parts : AreWordParts [] []
  of_byte : {b : ℕ} {ps : List Piece} {w : List ℕ} → is_word b ≡ true → AreWordParts ps w → AreWordParts (byte b ∷ ps) (b ∷ w)
  of_name : {name : List ℕ} {ps : List Piece} {w : List ℕ} → is_name_in name ≡ true → AreWordParts ps w → AreWordParts (reference name ∷ ps) (written name ++ w)

-- the parts of a text in quotes of a kind and its bytes between the quotes
pub data AreQuotedParts (q : ℕ) : List Piece → List ℕ → Type 0 where
  no_parts : AreQuotedParts q [] []
  of_byte : {b : ℕ} {ps : List Piece} {w : List ℕ} → is_plain q b ≡ true → AreQuotedParts q ps w → AreQuotedParts q (byte b ∷ ps) (b ∷ w)
  -- any byte after a backslash
  escaped : {b : ℕ} {ps : List Piece} {w : List ℕ} → AreQuotedParts q ps w → AreQuotedParts q (byte b ∷ ps) (92 ∷ b ∷ w)
  of_name : {name : List ℕ} {ps : List Piece} {w : List ℕ} → is_name_in name ≡ true → AreQuotedParts q ps w → AreQuotedParts q (reference name ∷ ps) (written name ++ w)

-- the parts of a variable's text and its bytes, where the first bad dollar is the last part
pub data AreValueParts : List Piece → List ℕ → Type 0 where
  no_parts : AreValueParts [] []
  of_byte : {b : ℕ} {ps : List Piece} {w : List ℕ} → (b == 36) ≡ false → AreValueParts ps w → AreValueParts (byte b ∷ ps) (b ∷ w)
  of_name : {name : List ℕ} {ps : List Piece} {w : List ℕ} → is_name_in name ≡ true → AreValueParts ps w → AreValueParts (reference name ∷ ps) (written name ++ w)
  bad : (bs : List ℕ) → reference_after_dollar bs ≡ None → AreValueParts (malformed ∷ []) (36 ∷ bs)

-- an operator as it is written
abbrev pub sign_bytes : Operator → List ℕ
sign_bytes And = codes "&&"
sign_bytes Or = codes "||"
sign_bytes Equal = codes "="
sign_bytes NotEqual = codes "!="
sign_bytes Less = codes "<"
sign_bytes LessOrEqual = codes "<="
sign_bytes Greater = codes ">"
sign_bytes GreaterOrEqual = codes ">="
sign_bytes Not = codes "!"
sign_bytes Open = codes "("
sign_bytes Close = codes ")"

-- whether the bytes after an operator make no longer operator of it
abbrev pub is_longest : Operator → List ℕ → Bool
is_longest Not bs = not (begins_with 61 bs)
is_longest Less bs = not (begins_with 61 bs)
is_longest Greater bs = not (begins_with 61 bs)
is_longest o bs = true

-- whether a byte and those after it begin with an operator
abbrev pub begins_sign : ℕ → List ℕ → Bool
begins_sign b bs =
    (b == 38 && begins_with 38 bs) || ((b == 124 && begins_with 124 bs)
    || (b == 33 || (b == 60 || (b == 62 || (b == 61 || (b == 40 || b == 41))))))

-- whether a byte may be where a token begins: a blank, a word, quotes, a comment or an operator
abbrev pub begins_token : ℕ → List ℕ → Bool
begins_token b bs = is_blank b || (begins_word (b ∷ bs) || (is_quote b || (b == 35 || begins_sign b bs)))

-- a line and what it shows from left to right: its tokens, until the first fault
pub data Shows : List ℕ → List Raw → Type 0 where
  ends : Shows [] []
  comment : {bs : List ℕ} → Shows (35 ∷ bs) []
  blank : {b : ℕ} {bs : List ℕ} {rs : List Raw} → is_blank b ≡ true → Shows bs rs → Shows (b ∷ bs) rs
  -- a word is as long as it can be
  a_word : {ps : List Piece} {w bs : List ℕ} {rs : List Raw} → 0 < length ps → AreWordParts ps w → begins_word bs ≡ false → Shows bs rs → Shows (w ++ bs) (word ps ∷ rs)
  -- a dollar in a word, or at the beginning of one, that begins no reference
  bad_word : {ps : List Piece} {w : List ℕ} (bs : List ℕ) → AreWordParts ps w → reference_after_dollar bs ≡ None → Shows (w ++ 36 ∷ bs) (word (ps ++ malformed ∷ []) ∷ [])
  a_text : {q : ℕ} {ps : List Piece} {w bs : List ℕ} {rs : List Raw} → is_quote q ≡ true → AreQuotedParts q ps w → Shows bs rs → Shows (q ∷ (w ++ q ∷ bs)) (quoted ps ∷ rs)
  -- quotes that the line does not close, and those with a backslash at the end of the line
  open_text : {q : ℕ} {ps : List Piece} {w : List ℕ} → is_quote q ≡ true → AreQuotedParts q ps w → Shows (q ∷ w) (unclosed ps ∷ [])
  open_escape : {q : ℕ} {ps : List Piece} {w : List ℕ} → is_quote q ≡ true → AreQuotedParts q ps w → Shows (q ∷ (w ++ 92 ∷ [])) (unclosed ps ∷ [])
  -- a dollar in quotes that begins no reference
  bad_text : {q : ℕ} {ps : List Piece} {w : List ℕ} (bs : List ℕ) → is_quote q ≡ true → AreQuotedParts q ps w → reference_after_dollar bs ≡ None → Shows (q ∷ (w ++ 36 ∷ bs)) (unclosed (ps ++ malformed ∷ []) ∷ [])
  a_sign : {o : Operator} {bs : List ℕ} {rs : List Raw} → is_longest o bs ≡ true → Shows bs rs → Shows (sign_bytes o ++ bs) (operator o ∷ rs)
  bad : {b : ℕ} {bs : List ℕ} → begins_token b bs ≡ false → Shows (b ∷ bs) (not_allowed ∷ [])
