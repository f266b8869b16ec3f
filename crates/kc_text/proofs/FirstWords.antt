-- The first word of a line, after which a definition has its sign.
use Rattle.std.proofs.Common.{◌≡◌, ◌∙◌, ℕ, List, [], ◌∷◌, Bool, true, false, ◌==◌, ◌||◌, drop, if◌then◌else◌, Option, Some, None, IfSome, Bor, refl, ap, sym, arith}
use Rattle.std.specs.List.{prefix_len}
use Rattle.std.proofs.lemmas.Bool.Decides.{nat_tests}
use Rattle.kc_text.specs.declared.variables.Definition.{Definition}
use Rattle.kc_text.specs.declared.line.Token.{Token}
use Rattle.kc_text.specs.Bytes.{is_blank, is_name, is_word, behind_blanks}
use Rattle.kc_text.specs.Definitions.{assignment_in, definition_after_blanks, definition_of, may_assign}
use Rattle.kc_text.specs.References.{leading_name}
use Rattle.kc_text.proofs.HelpWords.{behind-other}
use Rattle.kc_text.proofs.Runs.{prefix_len-yes, prefix_len-no}

name_is_word : (b : ℕ) → is_name b ≡ true → is_word b ≡ true
name_is_word b e = grind (arith, nat_tests)

word_not_blank : (b : ℕ) → is_word b ≡ true → is_blank b ≡ false
word_not_blank b e = grind (arith, nat_tests)

word_no_sign : (b : ℕ) → is_word b ≡ true → (b == 61 || (b == 58 || b == 43)) ≡ false
word_no_sign b e = grind (arith, nat_tests)

no_sign : (name bs : List ℕ) → may_assign bs ≡ false → assignment_in name bs ≡ None
no_sign name [] e = refl
no_sign name (b ∷ bs) e =
    let equal : (b == 61) ≡ false = grind (arith, nat_tests) in
    let colon : (b == 58) ≡ false = grind (arith, nat_tests) in
    let plus : (b == 43) ≡ false = grind (arith, nat_tests) in
    rw (equal, colon, plus) refl

-- where no sign is after the word, none is after the name that it begins with
behind_name : (bs : List ℕ) → may_assign (behind_blanks (drop (prefix_len is_word bs) bs)) ≡ false → may_assign (behind_blanks (drop (prefix_len is_name bs) bs)) ≡ false
behind_name [] e = e
behind_name (b ∷ bs) e =
    elim (is_name b) as (λ v. is_name b ≡ v → may_assign (behind_blanks (drop (prefix_len is_name (b ∷ bs)) (b ∷ bs))) ≡ false) [
      | true ↦ λ n.
          ap (λ k. may_assign (behind_blanks (drop k (b ∷ bs)))) (prefix_len-yes is_name b bs n)
          ∙ behind_name bs (sym (ap (λ k. may_assign (behind_blanks (drop k (b ∷ bs)))) (prefix_len-yes is_word b bs (name_is_word b n))) ∙ e)
      | false ↦ λ n.
          ap (λ k. may_assign (behind_blanks (drop k (b ∷ bs)))) (prefix_len-no is_name b bs n)
          ∙ (elim (is_word b) as (λ v. is_word b ≡ v → may_assign (behind_blanks (b ∷ bs)) ≡ false) [
            | true ↦ λ w. ap may_assign (behind-other b bs (word_not_blank b w)) ∙ word_no_sign b w
            | false ↦ λ w. sym (ap (λ k. may_assign (behind_blanks (drop k (b ∷ bs)))) (prefix_len-no is_word b bs w)) ∙ e
          ] refl)
    ] refl

either_none : (b : Bool) (d : Option Definition) → d ≡ None → (if b then None else d) ≡ None
either_none true d e = refl
either_none false d e = e

-- a line that begins with a word and has no sign after it
pub no_assignment : (bs rest : List ℕ) → rest ≡ drop (prefix_len is_word bs) bs → may_assign (behind_blanks rest) ≡ false → definition_after_blanks bs ≡ None
no_assignment bs rest behind e =
    either_none (prefix_len is_name bs == 0) (assignment_in (leading_name bs) (behind_blanks (drop (prefix_len is_name bs) bs)))
    (no_sign (leading_name bs) (behind_blanks (drop (prefix_len is_name bs) bs)) (behind_name bs (sym (ap (λ l. may_assign (behind_blanks l)) behind) ∙ e)))

-- what a line defines, by its first token and what is after it
abbrev pub Defines : List ℕ → Option (Token × Bor (List ℕ)) → Type 0
Defines line found = IfSome found (λ f. may_assign (behind_blanks f.1.now) ≡ false → definition_of line ≡ None)

module _ (line text : List ℕ) (same : text ≡ behind_blanks line) where
  pub word_defines : (found : Option (Token × Bor (List ℕ))) → IfSome found (λ f. f.1.now ≡ drop (prefix_len is_word text) text) → Defines line found
  word_defines None rest = tt
  word_defines (Some f) rest = λ e. ap definition_after_blanks (sym same) ∙ no_assignment text f.1.now rest e
