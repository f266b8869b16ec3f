-- The one token of a `help` line, which makes no definition.
use Rattle.std.proofs.Common.{◌≡◌, ◌∙◌, ◌<◌, ◌≤◌, ◌+◌, ◌-◌, ℕ, suc, List, [], ◌∷◌, ◌++◌, Bool, true, false, ◌==◌, ◌||◌, not, codes, length, take, drop, get_or, get_or-drop, length-drop, reverse, slice_index, if◌then◌else◌, Option, None, Ok, refl, ap, sym, subst, arith, append_assoc}
use Rattle.std.specs.List.{prefix_len, suffix_len}
use Rattle.std.specs.Str.{bytes_eq}
use Rattle.std.proofs.lemmas.Bool.Decides.{nat_tests}
use Rattle.std.proofs.lemmas.List.{get_or-reverse, take-append-drop}
use Rattle.std.proofs.lemmas.List.Sums.{prefix_len_passes, suffix_len-le-length}
use Rattle.std.proofs.lemmas.Slice.Eq.{bytes_eq-Decides}
use Rattle.kc_text.specs.declared.line.Token.TheVariants.{Word}
use Rattle.kc_text.specs.declared.variables.Definition.{Definition}
use Rattle.kc_text.specs.Bytes.{is_blank, is_name, is_word, behind_blanks, trimmed}
use Rattle.kc_text.specs.Definitions.{assignment_in, definition_after_blanks, definition_of}
use Rattle.kc_text.specs.Expansion.{Names, Environment}
use Rattle.kc_text.specs.Help.{before_comment, is_help}
use Rattle.kc_text.specs.Lexing.{word, in_word, begins_word, lexed, raw_tokens}
use Rattle.kc_text.specs.Scanning.{bytes_of}
use Rattle.kc_text.specs.Tokens.{line_tokens}
use Rattle.kc_text.proofs.HelpWords.{behind-blank, behind-other, some_taken, trimmed-first}
use Rattle.kc_text.proofs.Lexing.{raw_tokens-blanks, word_ends}
use Rattle.kc_text.proofs.Runs.{first_past_run, prefix_len-no}
use Rattle.kc_text.proofs.TokenLemmas.{shows_first, short_word}

-- a comment, or nothing
abbrev pub IsComment : List ℕ → Type 0
IsComment r = 0 < length r → not (slice_index r 0 == 35) ≡ false

number_sign : (b : ℕ) → not (b == 35) ≡ false → b ≡ 35
number_sign b e = grind (arith, nat_tests)

pub comment_raw : (r : List ℕ) → IsComment r → raw_tokens r ≡ []
comment_raw [] c = refl
comment_raw (b ∷ bs) c = ap (λ v. raw_tokens (v ∷ bs)) (number_sign b (c (omega arith)))

comment_word : (r : List ℕ) → IsComment r → begins_word r ≡ false
comment_word [] c = refl
comment_word (b ∷ bs) c = ap (λ v. begins_word (v ∷ bs)) (number_sign b (c (omega arith)))

-- what a run of bytes of a name defines
abbrev defines : List ℕ → ℕ → Option Definition
defines bs n = if n == 0 then None else assignment_in (take n bs) (behind_blanks (drop n bs))

-- a line whose first word has no byte of a name
pub no_name : (bs : List ℕ) → prefix_len is_name bs ≡ 0 → definition_after_blanks bs ≡ None
no_name bs e = ap (λ n. defines bs n) e

pub comment_name : (r : List ℕ) → IsComment r → prefix_len is_name r ≡ 0
comment_name [] c = refl
comment_name (b ∷ bs) c = ap (λ v. prefix_len is_name (v ∷ bs)) (number_sign b (c (omega arith)))

comment_blanks : (r : List ℕ) → IsComment r → behind_blanks r ≡ r
comment_blanks [] c = refl
comment_blanks (b ∷ bs) c =
    let e = number_sign b (c (omega arith)) in
    ap (λ v. behind_blanks (v ∷ bs)) e ∙ ap (λ v. v ∷ bs) (sym e)

comment_assigns : (name r : List ℕ) → IsComment r → assignment_in name r ≡ None
comment_assigns name [] c = refl
comment_assigns name (b ∷ bs) c = ap (λ v. assignment_in name (v ∷ bs)) (number_sign b (c (omega arith)))

-- blanks alone
abbrev AreBlanks : List ℕ → Type 0
AreBlanks z = (i : ℕ) → i < length z → is_blank (get_or z i 0) ≡ true

blank_no_word : (b : ℕ) → is_blank b ≡ true → (is_word b || b == 36) ≡ false
blank_no_word b e = grind (arith, nat_tests)

blank_no_name : (b : ℕ) → is_blank b ≡ true → is_name b ≡ false
blank_no_name b e = grind (arith, nat_tests)

-- blanks before a comment
tail_blanks : (z r : List ℕ) → AreBlanks z → IsComment r → behind_blanks (z ++ r) ≡ r
tail_blanks [] r all c = comment_blanks r c
tail_blanks (b ∷ bs) r all c = behind-blank b (bs ++ r) (all 0 (omega arith)) ∙ tail_blanks bs r (λ i h. all (suc i) (omega (arith, h))) c

tail_raw : (z r : List ℕ) → AreBlanks z → IsComment r → raw_tokens (z ++ r) ≡ []
tail_raw z r all c = sym (raw_tokens-blanks (z ++ r)) ∙ ap raw_tokens (tail_blanks z r all c) ∙ comment_raw r c

tail_word : (z r : List ℕ) → AreBlanks z → IsComment r → begins_word (z ++ r) ≡ false
tail_word [] r all c = comment_word r c
tail_word (b ∷ bs) r all c = blank_no_word b (all 0 (omega arith))

tail_name : (z r : List ℕ) → AreBlanks z → IsComment r → prefix_len is_name (z ++ r) ≡ 0
tail_name [] r all c = comment_name r c
tail_name (b ∷ bs) r all c = prefix_len-no is_name b (bs ++ r) (blank_no_name b (all 0 (omega arith)))

-- the blanks at the end
blanks_at_end : (bs : List ℕ) → AreBlanks (drop (length bs - suffix_len is_blank bs) bs)
blanks_at_end bs = λ i h.
    let n : ℕ = suffix_len is_blank bs in
    let m : ℕ = length bs - n in
    let within : n ≤ length bs = suffix_len-le-length is_blank bs in
    let inside : m + i < length bs = omega (arith, h, length-drop m bs) in
    let j : ℕ = length bs - 1 - (m + i) in
    let place : length bs - 1 - j ≡ m + i = omega (arith, inside) in
    let read : get_or (drop m bs) i 0 ≡ get_or (reverse bs) j 0 =
    get_or-drop m bs i 0 ∙ sym (get_or-reverse bs j 0 (omega (arith, inside)) ∙ ap (λ k. get_or bs k 0) place) in
    ap is_blank read ∙ prefix_len_passes is_blank (reverse bs) j 0 (omega (arith, inside, within))

behind-append : (bs r : List ℕ) → 0 < length (behind_blanks bs) → behind_blanks (bs ++ r) ≡ behind_blanks bs ++ r
behind-append [] r some = absurd (omega (arith, some))
behind-append (b ∷ bs) r some =
    elim (is_blank b) as (λ v. is_blank b ≡ v → behind_blanks (b ∷ bs ++ r) ≡ behind_blanks (b ∷ bs) ++ r) [
      | true ↦ λ e.
          behind-blank b (bs ++ r) e ∙ behind-append bs r (subst (λ l. 0 < length l) (behind-blank b bs e) some)
          ∙ ap (λ l. l ++ r) (sym (behind-blank b bs e))
      | false ↦ λ e. behind-other b (bs ++ r) e ∙ ap (λ l. l ++ r) (sym (behind-other b bs e))
    ] refl

-- a line whose one word is w, with what stands behind it
module _ (line w : List ℕ) (left : trimmed (before_comment line) ≡ w) (some : 0 < length w) where
  abbrev kept : List ℕ
  kept = behind_blanks (before_comment line)

  abbrev blanks : List ℕ
  blanks = drop (length kept - suffix_len is_blank kept) kept

  abbrev comment : List ℕ
  comment = drop (prefix_len (λ b. not (b == 35)) line) line

  is_comment : IsComment comment
  is_comment = first_past_run (λ b. not (b == 35)) line

  line_is : behind_blanks line ≡ w ++ (blanks ++ comment)
  line_is =
      let m : ℕ = length kept - suffix_len is_blank kept in
      let whole : line ≡ before_comment line ++ comment = sym (take-append-drop (prefix_len (λ b. not (b == 35)) line) line) in
      let kept_is : kept ≡ w ++ blanks = sym (take-append-drop m kept) ∙ ap (λ l. l ++ blanks) left in
      let some_kept : 0 < length kept = some_taken m kept (subst (λ l. 0 < length l) (sym left) some) in
      ap behind_blanks whole ∙ behind-append (before_comment line) comment some_kept ∙ ap (λ l. l ++ comment) kept_is ∙ append_assoc w blanks comment

  pub one_word : ((x : List ℕ) → raw_tokens (w ++ x) ≡ lexed 0 (in_word (bytes_of w)) x) → raw_tokens line ≡ word (bytes_of w) ∷ []
  one_word reads =
      sym (raw_tokens-blanks line) ∙ ap raw_tokens line_is ∙ reads (blanks ++ comment)
      ∙ word_ends (bytes_of w) (blanks ++ comment) (tail_word blanks comment (blanks_at_end kept) is_comment)
      ∙ ap (λ ts. word (bytes_of w) ∷ ts) (tail_raw blanks comment (blanks_at_end kept) is_comment)

  pub no_definition : ((x : List ℕ) → prefix_len is_name x ≡ 0 → definition_after_blanks (w ++ x) ≡ assignment_in w (behind_blanks x)) → definition_of line ≡ None
  no_definition named =
      ap definition_after_blanks line_is ∙ named (blanks ++ comment) (tail_name blanks comment (blanks_at_end kept) is_comment)
      ∙ ap (assignment_in w) (tail_blanks blanks comment (blanks_at_end kept) is_comment) ∙ comment_assigns w comment is_comment

-- the words
help_named : (x : List ℕ) → prefix_len is_name x ≡ 0 → definition_after_blanks (codes "help" ++ x) ≡ assignment_in (codes "help") (behind_blanks x)
help_named x e = ap (λ n. defines (codes "help" ++ x) (1 + (1 + (1 + (1 + n))))) e

dashed_named : (x : List ℕ) → prefix_len is_name x ≡ 0 → definition_after_blanks (codes "---help---" ++ x) ≡ assignment_in (codes "---help---") (behind_blanks x)
dashed_named x e = ap (λ n. defines (codes "---help---" ++ x) (1 + (1 + (1 + (1 + (1 + (1 + (1 + (1 + (1 + (1 + n))))))))))) e

module _ (line : List ℕ) (help : is_help line ≡ true) where
  abbrev left_of : List ℕ
  left_of = trimmed (before_comment line)

  first_is : (w : List ℕ) (b : ℕ) → 0 < length w → slice_index w 0 ≡ b → bytes_eq left_of w ≡ true → slice_index (behind_blanks line) 0 ≡ b
  first_is w b some first e = trimmed-first line w ((bytes_eq-Decides left_of w).0 e) some ∙ first

  help_left : (slice_index (behind_blanks line) 0 == 45) ≡ false → left_of ≡ codes "help"
  help_left other =
      elim (bytes_eq left_of (codes "---help---")) as (λ v. bytes_eq left_of (codes "---help---") ≡ v → left_of ≡ codes "help") [
        | true ↦ λ e. let first = first_is (codes "---help---") 45 (omega arith) refl e in absurd (grind (arith, nat_tests))
        | false ↦ λ e. (bytes_eq-Decides left_of (codes "help")).0 (sym (only (bytes_eq left_of (codes "help"))) ∙ ap (λ v. bytes_eq left_of (codes "help") || v) (sym e) ∙ help)
      ] refl
    where
      only : (b : Bool) → (b || false) ≡ b
      only true = refl
      only false = refl

  dashed_left : (slice_index (behind_blanks line) 0 == 45) ≡ true → left_of ≡ codes "---help---"
  dashed_left dash =
      elim (bytes_eq left_of (codes "help")) as (λ v. bytes_eq left_of (codes "help") ≡ v → left_of ≡ codes "---help---") [
        | true ↦ λ e. let first = first_is (codes "help") 104 (omega arith) refl e in absurd (grind (arith, nat_tests))
        | false ↦ λ e. (bytes_eq-Decides left_of (codes "---help---")).0 (ap (λ v. v || bytes_eq left_of (codes "---help---")) (sym e) ∙ help)
      ] refl

  pub help_is_no_definition : (slice_index (behind_blanks line) 0 == 45) ≡ false → definition_of line ≡ None
  help_is_no_definition other = no_definition line (codes "help") (help_left other) (omega arith) help_named

  pub dashed_is_no_definition : (slice_index (behind_blanks line) 0 == 45) ≡ true → definition_of line ≡ None
  dashed_is_no_definition dash = no_definition line (codes "---help---") (dashed_left dash) (omega arith) dashed_named

  module _ (names : Names) (outside : Environment) where
    pub help_shows : (slice_index (behind_blanks line) 0 == 45) ≡ false → line_tokens names outside line ≡ Ok (Word (codes "help") ∷ [])
    help_shows other =
        shows_first names outside (raw_tokens line) [] (word (bytes_of (codes "help"))) (Word (codes "help"))
        (one_word line (codes "help") (help_left other) (omega arith) (λ x. refl)) (short_word names outside (codes "help") refl)

    pub dashed_shows : (slice_index (behind_blanks line) 0 == 45) ≡ true → line_tokens names outside line ≡ Ok (Word (codes "---help---") ∷ [])
    dashed_shows dash =
        shows_first names outside (raw_tokens line) [] (word (bytes_of (codes "---help---"))) (Word (codes "---help---"))
        (one_word line (codes "---help---") (dashed_left dash) (omega arith) (λ x. refl)) (short_word names outside (codes "---help---") refl)
