-- A line without a dollar refers to no variable.
use Rattle.std.proofs.Common.{◌≡◌, ℕ, zero, suc, Bool, true, false, not, cond, eqb, ◌&&◌, ◌||◌, List, [], ◌∷◌, ◌++◌, length, refl, sym, ap, ◌∙◌, subst, arith, flat_map}
use Rattle.std.specs.List.{prefix_len}
use Rattle.std.proofs.lemmas.List.{append-nil}
use Rattle.std.proofs.lemmas.List.Concat.{flat_map-append}
use Rattle.kc_text.specs.Bytes.{begins_with, is_blank, is_word}
use Rattle.kc_text.specs.References.{Piece, byte, is_no_dollar}
use Rattle.kc_text.specs.Lexing.{Raw, word, quoted, Mode, between, in_word, in_quotes, Step, on, stop, is_quote, word_dollar, sign_step, between_step, showing, quotes_dollar, quotes_backslash, quotes_step, step, ends, lexed, raw_tokens}
use Rattle.kc_text.specs.LineReferences.{AreReferences, names_in_pieces, names_shown, piece_names, token_names}
use Rattle.kc_text.specs.Scanning.{bytes_of}
use Rattle.kc_text.proofs.Lexing.{after_step}
use Rattle.kc_text.proofs.Runs.{prefix_len-yes, prefix_len-no}
use Rattle.kc_text.proofs.ShownLaws.{shown}

abbrev mode_names : Mode → List (List ℕ)
mode_names between = []
mode_names (in_word ps) = names_in_pieces ps
mode_names (in_quotes q ps) = names_in_pieces ps

abbrev names_in : List Raw → List (List ℕ)
names_in ts = flat_map token_names ts

-- a step that shows no reference and leaves none in a token that is not read to its end
abbrev IsClean : Step → Type 0
IsClean (on ts n next) = (names_in ts ≡ []) × (mode_names next ≡ [])
IsClean (stop ts) = names_in ts ≡ []

either : (v : Bool) (x y : Step) → IsClean x → IsClean y → IsClean (cond v x y)
either true x y a b = a
either false x y a b = b

sign_clean : (b : ℕ) (bs : List ℕ) → IsClean (sign_step b bs)
sign_clean b bs =
    either (is_quote b) _ _ (refl, refl)
    (either (eqb b 35) _ _ refl
    (either (eqb b 38 && begins_with 38 bs) _ _ (refl, refl)
    (either (eqb b 124 && begins_with 124 bs) _ _ (refl, refl)
    (either (eqb b 33) _ _ (either (begins_with 61 bs) _ _ (refl, refl) (refl, refl))
    (either (eqb b 60) _ _ (either (begins_with 61 bs) _ _ (refl, refl) (refl, refl))
    (either (eqb b 62) _ _ (either (begins_with 61 bs) _ _ (refl, refl) (refl, refl))
    (either (eqb b 61) _ _ (refl, refl)
    (either (eqb b 40) _ _ (refl, refl)
    (either (eqb b 41) _ _ (refl, refl) refl)))))))))

between_clean : (b : ℕ) (bs : List ℕ) → eqb b 36 ≡ false → IsClean (between_step b bs)
between_clean b bs e =
    either (is_blank b) _ _ (refl, refl)
    (either (is_word b) _ _ (refl, refl)
    (subst (λ v. IsClean (cond v (word_dollar [] bs) (sign_step b bs))) (sym e) (sign_clean b bs)))

showing_clean : (t : Raw) (s : Step) → token_names t ≡ [] → IsClean s → IsClean (showing t s)
showing_clean t (on ts n m) e c = (ap (λ l. l ++ names_in ts) e ∙ c.0, c.1)
showing_clean t (stop ts) e c = ap (λ l. l ++ names_in ts) e ∙ c

with_byte : (ps : List Piece) (b : ℕ) → names_in_pieces ps ≡ [] → names_in_pieces (ps ++ byte b ∷ []) ≡ []
with_byte ps b c = flat_map-append piece_names ps (byte b ∷ []) ∙ ap (λ l. l ++ []) c

word_clean : (ps : List Piece) (b : ℕ) (bs : List ℕ) → eqb b 36 ≡ false → names_in_pieces ps ≡ [] → IsClean (step (in_word ps) b bs)
word_clean ps b bs e c =
    either (is_word b) _ _ (refl, with_byte ps b c)
    (subst (λ v. IsClean (cond v (word_dollar ps bs) (showing (word ps) (between_step b bs)))) (sym e)
    (showing_clean (word ps) (between_step b bs) c (between_clean b bs e)))

backslash_clean : (q : ℕ) (ps : List Piece) (bs : List ℕ) → names_in_pieces ps ≡ [] → IsClean (quotes_backslash q ps bs)
backslash_clean q ps [] c = (refl, c)
backslash_clean q ps (b ∷ bs) c = (refl, with_byte ps b c)

abbrev quotes_by : ℕ → List Piece → Bool → Bool → Bool → ℕ → List ℕ → Step
quotes_by q ps closes escapes dollar b bs =
    cond (not (closes || (escapes || dollar))) (on [] 0 (in_quotes q (ps ++ byte b ∷ [])))
    (cond closes (on (quoted ps ∷ []) 0 between) (cond escapes (quotes_backslash q ps bs) (quotes_dollar q ps bs)))

by_clean : (q : ℕ) (ps : List Piece) (closes escapes : Bool) (b : ℕ) (bs : List ℕ) → names_in_pieces ps ≡ [] → IsClean (quotes_by q ps closes escapes false b bs)
by_clean q ps true escapes b bs c = (ap (λ l. l ++ []) c, refl)
by_clean q ps false true b bs c = backslash_clean q ps bs c
by_clean q ps false false b bs c = (refl, with_byte ps b c)

quotes_clean : (q : ℕ) (ps : List Piece) (b : ℕ) (bs : List ℕ) → eqb b 36 ≡ false → names_in_pieces ps ≡ [] → IsClean (quotes_step q ps b bs)
quotes_clean q ps b bs e c =
    subst (λ v. IsClean (quotes_by q ps (eqb b q) (eqb b 92) v b bs)) (sym e) (by_clean q ps (eqb b q) (eqb b 92) b bs c)

step_clean : (m : Mode) (b : ℕ) (bs : List ℕ) → eqb b 36 ≡ false → mode_names m ≡ [] → IsClean (step m b bs)
step_clean between b bs e c = between_clean b bs e
step_clean (in_word ps) b bs e c = word_clean ps b bs e c
step_clean (in_quotes q ps) b bs e c = quotes_clean q ps b bs e c

ends_clean : (m : Mode) → mode_names m ≡ [] → names_in (ends m) ≡ []
ends_clean between c = refl
ends_clean (in_word ps) c = ap (λ l. l ++ []) c
ends_clean (in_quotes q ps) c = ap (λ l. l ++ []) c

after_clean : (s : Step) (bs : List ℕ) → IsClean s → ((n : ℕ) (m : Mode) → mode_names m ≡ [] → names_in (lexed n m bs) ≡ []) → names_in (after_step s bs) ≡ []
after_clean (on ts n next) bs c rest =
    flat_map-append token_names ts (lexed n next bs) ∙ ap (λ l. l ++ names_in (lexed n next bs)) c.0 ∙ rest n next c.1
after_clean (stop ts) bs c rest = c

first_plain : (b : ℕ) (bs : List ℕ) → prefix_len is_no_dollar (b ∷ bs) ≡ length (b ∷ bs) → eqb b 36 ≡ false
first_plain b bs all =
    elim (eqb b 36) as (λ v. eqb b 36 ≡ v → eqb b 36 ≡ false) [
      | true ↦ λ e. absurd (omega (arith, all, prefix_len-no is_no_dollar b bs (ap not e)))
      | false ↦ λ e. e
    ] refl

rest_plain : (b : ℕ) (bs : List ℕ) → prefix_len is_no_dollar (b ∷ bs) ≡ length (b ∷ bs) → prefix_len is_no_dollar bs ≡ length bs
rest_plain b bs all = omega (arith, all, prefix_len-yes is_no_dollar b bs (ap not (first_plain b bs all)))

lexed_clean : (bs : List ℕ) (n : ℕ) (m : Mode) → prefix_len is_no_dollar bs ≡ length bs → mode_names m ≡ [] → names_in (lexed n m bs) ≡ []
lexed_clean [] n m all c = ends_clean m c
lexed_clean (b ∷ bs) (suc n) m all c = lexed_clean bs n m (rest_plain b bs all) c
lexed_clean (b ∷ bs) zero m all c =
    after_clean (step m b bs) bs (step_clean m b bs (first_plain b bs all) c)
    (λ n next d. lexed_clean bs n next (rest_plain b bs all) d)

pub no_references : (bs : List ℕ) → prefix_len is_no_dollar bs ≡ length bs → names_shown (raw_tokens bs) ≡ []
no_references bs all = lexed_clean bs 0 between all refl

-- bytes as they are refer to none
pub byte_names : (bs : List ℕ) → names_in_pieces (bytes_of bs) ≡ []
byte_names [] = refl
byte_names (b ∷ bs) = byte_names bs

-- what adds no names
pub adds_none : (names more : List (List ℕ)) → more ≡ [] → names ≡ names ++ more
adds_none names more e = sym (append-nil names) ∙ ap (λ l. names ++ l) (sym e)

pub shown_references : (line : List ℕ) (names : List (List ℕ)) → names ≡ names_shown (raw_tokens line) → AreReferences line names
shown_references line names is = (raw_tokens line, shown line, is)
