-- Lines without tokens, which change nothing.
use Rattle.std.proofs.Common.{◌≡◌, ◌∙◌, ◌<◌, ◌≤◌, ◌==◌, ◌||◌, ℕ, List, [], ◌∷◌, not, false, length, slice_index, None, Ok, refl, ap, sym, arith}
use Rattle.std.proofs.lemmas.Bool.{le-ltb}
use Rattle.std.proofs.lemmas.Bool.Decides.{nat_tests}
use Rattle.std.proofs.lemmas.List.{append-nil}
use Rattle.kc_text.specs.Bytes.{behind_blanks}
use Rattle.kc_text.specs.Definitions.{definition_of}
use Rattle.kc_text.specs.Expansion.{Environment, Names}
use Rattle.kc_text.specs.Help.{is_help}
use Rattle.kc_text.specs.Items.{ItemValue, ends_in_backslash, first_item}
use Rattle.kc_text.specs.Reading.{Place, Placing, ReadState, item_read}
use Rattle.kc_text.specs.Tokens.{line_tokens, tokens_of}
use Rattle.kc_text.proofs.HelpTokens.{IsComment, comment_name, comment_raw, no_name}
use Rattle.kc_text.proofs.HelpWords.{no_help}
use Rattle.kc_text.proofs.Joining.{joined_more-off}
use Rattle.kc_text.proofs.Lexing.{raw_tokens-blanks}

-- the first byte that is no blank begins a comment, if there is one
abbrev pub BeginsComment : List ℕ → Type 0
BeginsComment line = 0 < length (behind_blanks line) → slice_index (behind_blanks line) 0 ≡ 35

abbrev pub silent_item : List ℕ → ItemValue
silent_item line = record { text = line; help = None; more = 0 }

is_sign : (b : ℕ) → b ≡ 35 → not (b == 35) ≡ false
is_sign b e = grind (arith, nat_tests)

neither : (r : List ℕ) → (0 < length r → slice_index r 0 ≡ 35) → (slice_index r 0 == 104 || slice_index r 0 == 45) ≡ false
neither [] c = refl
neither (b ∷ bs) c = let e : b ≡ 35 = c (omega arith) in grind (arith, nat_tests)

module _ (line : List ℕ) (silent : BeginsComment line) where
  comment : IsComment (behind_blanks line)
  comment = λ some. is_sign (slice_index (behind_blanks line) 0) (silent some)

  is_no_help : is_help line ≡ false
  is_no_help = no_help line (neither (behind_blanks line) silent)

  is_no_definition : definition_of line ≡ None
  is_no_definition = no_name (behind_blanks line) (comment_name (behind_blanks line) comment)

  has_no_tokens : (names : Names) (outside : Environment) → line_tokens names outside line ≡ Ok []
  has_no_tokens names outside = ap (tokens_of names outside) (sym (raw_tokens-blanks line) ∙ comment_raw (behind_blanks line) comment)

  pub silent_first : (ls : List (List ℕ)) → ends_in_backslash line ≡ false → silent_item line ≡ first_item (line ∷ ls)
  silent_first ls alone = rw (alone, joined_more-off line ls alone, is_no_help) refl

  pub silent_read : (outside : Environment) (place : Placing) (at : Place) (s : ReadState) → length line ≤ 65536 → item_read outside place at (silent_item line) s ≡ Ok s
  silent_read outside place at s short =
      rw (le-ltb 65536 (length line) short, is_no_definition, has_no_tokens s.names outside)
      (ap (λ ls. Ok (record { lines = ls; names = s.names; followed = s.followed; placed = s.placed })) (append-nil s.lines))
