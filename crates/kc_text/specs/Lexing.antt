-- Steps: what a line shows, one byte at a time, by the rules that this project takes from the line format of
-- kconfig-language.rst.
use Rattle.std.specs.Prelude.{ℕ, zero, suc, List, [], ◌∷◌, ◌++◌, if◌then◌else◌, ◌==◌, ◌&&◌, Some, None}
use Rattle.kc_text.specs.declared.line.Operator.{Operator}
use Rattle.kc_text.specs.declared.line.Operator.TheVariants.{And, Or, Equal, NotEqual, Less, LessOrEqual, Greater, GreaterOrEqual, Not, Open, Close}
use Rattle.kc_text.specs.Bytes.{is_blank, is_word, begins_with}
use Rattle.kc_text.specs.References.{Piece, byte, reference, malformed, reference_after_dollar, reference_len}
pub use Rattle.kc_text.specs.Shown.{Raw, word, quoted, operator, unclosed, not_allowed, is_quote, begins_word, is_plain}

-- where a byte stands: between tokens, or in a word or in quotes of a kind, after what was read there
pub data Mode : Type 0 where
  between : Mode
  in_word : List Piece → Mode
  in_quotes : ℕ → List Piece → Mode

-- what a byte does: it shows tokens, and reading goes on in a mode after so many more bytes, or stops
pub data Step : Type 0 where
  on : List Raw → ℕ → Mode → Step
  stop : List Raw → Step

-- an operator of one byte, or of two where the second follows
abbrev pub one_or_two : Operator → Operator → ℕ → List ℕ → Step
one_or_two one two c bs = if begins_with c bs then on (operator two ∷ []) 1 between else on (operator one ∷ []) 0 between

-- a dollar in a word, after what was read there
abbrev pub word_dollar : List Piece → List ℕ → Step
word_dollar ps bs = elim (reference_after_dollar bs) [
  | Some name ↦ on [] (reference_len name) (in_word (ps ++ reference name ∷ []))
  | None ↦ stop (word (ps ++ malformed ∷ []) ∷ [])
]

-- a byte that is no blank and in no word, with the bytes after it: a quote, a comment or an operator
abbrev pub sign_step : ℕ → List ℕ → Step
sign_step b bs =
    if is_quote b then on [] 0 (in_quotes b [])
    else (if b == 35 then stop []
    else (if b == 38 && begins_with 38 bs then on (operator And ∷ []) 1 between
    else (if b == 124 && begins_with 124 bs then on (operator Or ∷ []) 1 between
    else (if b == 33 then one_or_two Not NotEqual 61 bs
    else (if b == 60 then one_or_two Less LessOrEqual 61 bs
    else (if b == 62 then one_or_two Greater GreaterOrEqual 61 bs
    else (if b == 61 then on (operator Equal ∷ []) 0 between
    else (if b == 40 then on (operator Open ∷ []) 0 between
    else (if b == 41 then on (operator Close ∷ []) 0 between
    else stop (not_allowed ∷ []))))))))))

-- a byte between tokens, with the bytes after it
abbrev pub between_step : ℕ → List ℕ → Step
between_step b bs =
    if is_blank b then on [] 0 between
    else (if is_word b then on [] 0 (in_word (byte b ∷ []))
    else (if b == 36 then word_dollar [] bs else sign_step b bs))

-- a step that shows one token more before its own
abbrev pub showing : Raw → Step → Step
showing t (on ts n m) = on (t ∷ ts) n m
showing t (stop ts) = stop (t ∷ ts)

-- a dollar in quotes, after what was read there
abbrev pub quotes_dollar : ℕ → List Piece → List ℕ → Step
quotes_dollar q ps bs = elim (reference_after_dollar bs) [
  | Some name ↦ on [] (reference_len name) (in_quotes q (ps ++ reference name ∷ []))
  | None ↦ stop (unclosed (ps ++ malformed ∷ []) ∷ [])
]

-- a backslash in quotes: the next byte stands for itself
abbrev pub quotes_backslash : ℕ → List Piece → List ℕ → Step
quotes_backslash q ps [] = on [] 0 (in_quotes q ps)
quotes_backslash q ps (c ∷ bs) = on [] 1 (in_quotes q (ps ++ byte c ∷ []))

-- a byte in quotes
abbrev pub quotes_step : ℕ → List Piece → ℕ → List ℕ → Step
quotes_step q ps b bs =
    if is_plain q b then on [] 0 (in_quotes q (ps ++ byte b ∷ []))
    else (if b == q then on (quoted ps ∷ []) 0 between
    else (if b == 92 then quotes_backslash q ps bs else quotes_dollar q ps bs))

-- a word goes on as far as it can
abbrev pub step : Mode → ℕ → List ℕ → Step
step between b bs = between_step b bs
step (in_word ps) b bs =
    if is_word b then on [] 0 (in_word (ps ++ byte b ∷ []))
    else (if b == 36 then word_dollar ps bs else showing (word ps) (between_step b bs))
step (in_quotes q ps) b bs = quotes_step q ps b bs

-- what the end of the line shows
abbrev pub ends : Mode → List Raw
ends between = []
ends (in_word ps) = word ps ∷ []
ends (in_quotes q ps) = unclosed ps ∷ []

-- what is shown from a byte on, where so many bytes belong to what was read before
abbrev pub lexed : ℕ → Mode → List ℕ → List Raw
lexed n m [] = ends m
lexed (suc n) m (b ∷ bs) = lexed n m bs
lexed zero m (b ∷ bs) = elim (step m b bs) [ on ts n next ↦ ts ++ lexed n next bs | stop ts ↦ ts ]

-- what a line shows
abbrev pub raw_tokens : List ℕ → List Raw
raw_tokens bs = lexed 0 between bs
