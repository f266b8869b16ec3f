-- Texts that have no line feed, and texts that do not end in a blank.
use Rattle.std.proofs.Common.{◌≡◌, ℕ, ◌-◌, ◌^◌, ◌==◌, Bool, true, false, ◌&&◌, ◌||◌, List, [], ◌∷◌, ◌++◌, length, take, drop, Option, Some, None, is_some, option_map, if◌then◌else◌, refl, sym, ap, subst, ◌∙◌, append_assoc, arith}
use Rattle.std.specs.Prelude.{pos, neg_ℤ, nat_le, codes}
use Rattle.std.specs.Char.{is_ascii_digit, is_ascii_hexdigit}
use Rattle.std.specs.List.{list_all, list_any}
use Rattle.std.specs.Str.{bytes_eq}
use Rattle.std.specs.Str.Parse.{digits_value}
use Rattle.std.proofs.lemmas.Bool.{true≢false, eqb-true, and_parts, or_parts, or_from, false_from_ne_true, le-leb}
use Rattle.std.proofs.lemmas.List.{take-append-drop}
use Rattle.std.proofs.lemmas.List.Folds.{list_any-append}
use Rattle.kc_statement.specs.Names.{is_name_byte}
use Rattle.kc_statement.specs.Numerals.{up_to, digits_up_to, hex_digits, int_numeral, hex_numeral}
use Rattle.kc_files.specs.ConfigLines.{is_feed, is_trailing, trimmed}
use Rattle.kc_files.specs.Quoting.{is_special, escaped_byte, escaped}
use Rattle.kc_files.proofs.LineCuts.{HasNoFeed}
use Rattle.kc_files.proofs.WrittenLines.{trimmed_same}

-- a byte that passes a test is none that fails it
apart : (p : ℕ → Bool) (b c : ℕ) → p b ≡ true → p c ≡ false → (b == c) ≡ false
apart p b c h none = false_from_ne_true (b == c) (λ e. true≢false (sym h ∙ ap p (eqb-true b c e) ∙ none))

-- ---- no line feed
pub feedless : (bs : List ℕ) → list_any is_feed bs ≡ false → HasNoFeed bs
feedless [] h = tt
feedless (b ∷ bs) h = let p = or_parts (is_feed b) (list_any is_feed bs) h in (p.0, feedless bs p.1)

pub unfed_both : (xs ys : List ℕ) → list_any is_feed xs ≡ false → list_any is_feed ys ≡ false → list_any is_feed (xs ++ ys) ≡ false
unfed_both xs ys e f = list_any-append is_feed xs ys ∙ or_from (list_any is_feed xs) (list_any is_feed ys) e f

pub word_unfed : (w : List ℕ) → list_all is_name_byte w ≡ true → list_any is_feed w ≡ false
word_unfed [] h = refl
word_unfed (b ∷ bs) h =
    let p = and_parts (is_name_byte b) (list_all is_name_byte bs) h in
    or_from (is_feed b) (list_any is_feed bs) (apart is_name_byte b 10 p.0 refl) (word_unfed bs p.1)

byte_unfed : (x : Bool) (b : ℕ) → is_feed b ≡ false → list_any is_feed (if x then 92 ∷ b ∷ [] else b ∷ []) ≡ false
byte_unfed true b e = or_from (is_feed b) false e refl
byte_unfed false b e = or_from (is_feed b) false e refl

pub escaped_unfed : (w : List ℕ) → list_any is_feed w ≡ false → list_any is_feed (escaped w) ≡ false
escaped_unfed [] h = refl
escaped_unfed (b ∷ bs) h =
    let p = or_parts (is_feed b) (list_any is_feed bs) h in
    unfed_both (escaped_byte b) (escaped bs) (byte_unfed (is_special b) b p.0) (escaped_unfed bs p.1)

-- ---- no blank at the end
abbrev pub EndsWhole : List ℕ → Type 0
EndsWhole bs = (front : List ℕ) × (b : ℕ) × (bs ≡ front ++ b ∷ []) × (is_trailing b ≡ false)

pub ends_after : (xs bs : List ℕ) → EndsWhole bs → EndsWhole (xs ++ bs)
ends_after xs bs h = (xs ++ h.0, h.1, ap (λ r. xs ++ r) h.2 ∙ sym (append_assoc xs h.0 (h.1 ∷ [])), h.3)

pub whole_of : (bs : List ℕ) → EndsWhole bs → trimmed bs ≡ bs
whole_of bs h = subst (λ l. trimmed l ≡ l) (sym h.2) (trimmed_same h.0 h.1 h.3)

module _ (p : ℕ → Bool) (space : p 32 ≡ false) (tab : p 9 ≡ false) (return : p 13 ≡ false) where
  plain : (b : ℕ) → p b ≡ true → is_trailing b ≡ false
  plain b h = or_from (b == 32 || b == 9) (b == 13) (or_from (b == 32) (b == 9) (apart p b 32 h space) (apart p b 9 h tab)) (apart p b 13 h return)

  -- one or more bytes that are no blanks
  all_whole : (bs : List ℕ) → list_all p bs ≡ true → nat_le 1 (length bs) ≡ true → EndsWhole bs
  all_whole [] h some = absurd (true≢false (sym some))
  all_whole (b ∷ []) h some = ([], b, refl, plain b (and_parts (p b) true h).0)
  all_whole (b ∷ c ∷ cs) h some =
      ends_after (b ∷ []) (c ∷ cs) (all_whole (c ∷ cs) (and_parts (p b) (list_all p (c ∷ cs)) h).1 (le-leb 1 (length (c ∷ cs)) (omega arith)))

  digits_whole : (bs : List ℕ) (o : Option ℕ) → is_some (if list_all p bs && nat_le 1 (length bs) then o else None) ≡ true → EndsWhole bs
  digits_whole bs o h = go (list_all p bs && nat_le 1 (length bs)) refl h
    where
      go : (x : Bool) → (list_all p bs && nat_le 1 (length bs)) ≡ x → is_some (if x then o else None) ≡ true → EndsWhole bs
      go true e h = let q = and_parts (list_all p bs) (nat_le 1 (length bs)) e in all_whole bs q.0 q.1
      go false e h = absurd (true≢false (sym h))

mapped_some : {X Y : Type 0} (f : X → Y) (o : Option X) → is_some (option_map f o) ≡ true → is_some o ≡ true
mapped_some f None h = h
mapped_some f (Some x) h = refl

decimal_whole : (bound : ℕ) (bs : List ℕ) → is_some (digits_up_to bound bs) ≡ true → EndsWhole bs
decimal_whole bound bs h = digits_whole is_ascii_digit refl refl refl bs (up_to bound (digits_value 10 bs)) h

hex_whole : (bs : List ℕ) → is_some (hex_digits bs) ≡ true → EndsWhole bs
hex_whole bs h = digits_whole is_ascii_hexdigit refl refl refl bs (up_to (2 ^ 64 - 1) (digits_value 16 bs)) h

-- what follows a sign, or stands without one
behind : (n : ℕ) (bs : List ℕ) → EndsWhole (drop n bs) → EndsWhole bs
behind n bs h = subst EndsWhole (take-append-drop n bs) (ends_after (take n bs) (drop n bs) h)

pub int_whole : (w : List ℕ) → is_some (int_numeral w) ≡ true → EndsWhole w
int_whole w h = go (bytes_eq (take 1 w) (codes "-")) h
  where
    go : (x : Bool)
        → is_some (if x then option_map (λ n. neg_ℤ (pos n)) (digits_up_to (2 ^ 63) (drop 1 w)) else option_map pos (digits_up_to (2 ^ 63 - 1) w)) ≡ true
        → EndsWhole w
    go true h = behind 1 w (decimal_whole (2 ^ 63) (drop 1 w) (mapped_some (λ n. neg_ℤ (pos n)) (digits_up_to (2 ^ 63) (drop 1 w)) h))
    go false h = decimal_whole (2 ^ 63 - 1) w (mapped_some pos (digits_up_to (2 ^ 63 - 1) w) h)

pub hex_numeral_whole : (w : List ℕ) → is_some (hex_numeral w) ≡ true → EndsWhole w
hex_numeral_whole w h = go (bytes_eq (take 2 w) (codes "0x") || bytes_eq (take 2 w) (codes "0X")) h
  where
    go : (x : Bool) → is_some (if x then option_map pos (hex_digits (drop 2 w)) else option_map pos (hex_digits w)) ≡ true → EndsWhole w
    go true h = behind 2 w (hex_whole (drop 2 w) (mapped_some pos (hex_digits (drop 2 w)) h))
    go false h = hex_whole w (mapped_some pos (hex_digits w) h)
