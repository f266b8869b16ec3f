-- The names that lines define are apart, and each is a name.
use Rattle.std.proofs.Common.{◌≡◌, ℕ, zero, suc, Bool, true, false, ◌||◌, if◌then◌else◌, List, [], ◌∷◌, ◌++◌, Option, Some, None, length, refl, sym, ap, ◌∙◌, subst, inl, inr, ◌⊎◌}
use Rattle.std.specs.Prelude.{nat_le, All, slice_get}
use Rattle.std.specs.List.{list_any}
use Rattle.std.specs.Option.{option_map_or}
use Rattle.std.specs.Str.{bytes_eq}
use Rattle.std.proofs.lemmas.Bool.{or_parts, true≢false}
use Rattle.std.proofs.lemmas.Option.{none-some, same_Some, cond_some, option_and_then_some}
use Rattle.std.proofs.lemmas.List.Elements.{All-nil, All-push}
use Rattle.std.proofs.lemmas.Slice.Eq.{bytes_eq-Decides}
use Rattle.kc_text.specs.LineValue.{LineValue}
use Rattle.kc_text.specs.declared.line.Token.{Token}
use Rattle.kc_statement.specs.Keywords.{is_config}
use Rattle.kc_statement.specs.Names.{is_name, token_word, name_word, name_alone, defined_name, with_name, names_before}
use Rattle.kc_statement.specs.declared.limits.TheConstants.{MOST_SYMBOLS}
use Rattle.kc_outline.specs.NameList.{AreNames}

-- ---- what a line defines is a name
of_token : (t : Token) (w : List ℕ) → name_word t ≡ Some w → is_name w ≡ true
of_token t w e =
    option_and_then_some (λ v. if is_name v then Some v else None) (token_word t) w e
    (λ v p q. let r = cond_some (is_name v) v w q in ap is_name (sym r.1) ∙ r.0)

of_tokens : (ts : List Token) (w : List ℕ) → name_alone ts ≡ Some w → is_name w ≡ true
of_tokens [] w e = absurd (none-some w e)
of_tokens (k ∷ []) w e = absurd (none-some w e)
of_tokens (k ∷ t ∷ []) w e = of_token t w e
of_tokens (k ∷ t ∷ u ∷ ts) w e = absurd (none-some w e)

of_config : (b : Bool) (ts : List Token) (w : List ℕ) → (if b then name_alone ts else None) ≡ Some w → is_name w ≡ true
of_config true ts w e = of_tokens ts w e
of_config false ts w e = absurd (none-some w e)

formed_name : (l : LineValue) (w : List ℕ) → defined_name l ≡ Some w → is_name w ≡ true
formed_name l w e = of_config (is_config l) l.tokens w e

-- ---- one more name
push_cases : (ns : List (List ℕ)) (w : List ℕ) (i : ℕ) (n : List ℕ) → slice_get (ns ++ w ∷ []) i ≡ Some n → (slice_get ns i ≡ Some n) ⊎ ((i ≡ length ns) × (n ≡ w))
push_cases [] w zero n e = inr (refl, sym (same_Some w n e))
push_cases [] w (suc i) n e = absurd (none-some n e)
push_cases (x ∷ xs) w zero n e = inl e
push_cases (x ∷ xs) w (suc i) n e = elim (push_cases xs w i n e) [
  | inl h ↦ inl h
  | inr h ↦ inr (ap suc h.0, h.1)
]

not_among : (ns : List (List ℕ)) (w : List ℕ) (i : ℕ) → list_any (bytes_eq w) ns ≡ false → slice_get ns i ≡ Some w → ⊥
not_among [] w i none e = none-some w e
not_among (x ∷ xs) w zero none e =
    let first : bytes_eq w x ≡ false = (or_parts (bytes_eq w x) (list_any (bytes_eq w) xs) none).0 in
    true≢false (sym ((bytes_eq-Decides w x).1 (sym (same_Some x w e))) ∙ first)
not_among (x ∷ xs) w (suc i) none e = not_among xs w i (or_parts (bytes_eq w x) (list_any (bytes_eq w) xs) none).1 e

AreApart : List (List ℕ) → Type 0
AreApart ns = (i j : ℕ) (n : List ℕ) → slice_get ns i ≡ Some n → slice_get ns j ≡ Some n → i ≡ j

apart_more : (ns : List (List ℕ)) (w : List ℕ) → AreApart ns → list_any (bytes_eq w) ns ≡ false → AreApart (ns ++ w ∷ [])
unfolding AreApart
apart_more ns w apart none i j n e f = elim (push_cases ns w i n e) [
  | inl a ↦ elim (push_cases ns w j n f) [
    | inl b ↦ apart i j n a b
    | inr b ↦ absurd (not_among ns w i none (a ∙ ap Some b.1))
  ]
  | inr a ↦ elim (push_cases ns w j n f) [
    | inl b ↦ absurd (not_among ns w j none (b ∙ ap Some a.1))
    | inr b ↦ a.0 ∙ sym b.0
  ]
]

apart_step : (ns : List (List ℕ)) (o : Option (List ℕ)) → AreApart ns → AreApart (option_map_or (with_name ns) o ns)
apart_step ns None apart = apart
apart_step ns (Some w) apart = by (list_any (bytes_eq w) ns) (nat_le MOST_SYMBOLS (length ns)) refl
  where
    by : (a b : Bool) → list_any (bytes_eq w) ns ≡ a → AreApart (if a || b then ns else ns ++ w ∷ [])
    by true b e = apart
    by false true e = apart
    by false false e = apart_more ns w apart e

formed_step : (ns : List (List ℕ)) (o : Option (List ℕ)) → ((w : List ℕ) → o ≡ Some w → is_name w ≡ true) → All (λ n. is_name n ≡ true) ns → All (λ n. is_name n ≡ true) (option_map_or (with_name ns) o ns)
formed_step ns None formed all = all
formed_step ns (Some w) formed all = by (list_any (bytes_eq w) ns || nat_le MOST_SYMBOLS (length ns))
  where
    by : (b : Bool) → All (λ n. is_name n ≡ true) (if b then ns else ns ++ w ∷ [])
    by true = all
    by false = All-push (λ n. is_name n ≡ true) ns w all (formed w refl)

-- ---- the names of lines
apart_before : (earlier : List LineValue) → AreApart (names_before earlier)
unfolding AreApart
apart_before [] = λ i j n e f. absurd (none-some n e)
apart_before (l ∷ earlier) = apart_step (names_before earlier) (defined_name l) (apart_before earlier)

formed_before : (earlier : List LineValue) → All (λ n. is_name n ≡ true) (names_before earlier)
formed_before [] = All-nil (λ n. is_name n ≡ true)
formed_before (l ∷ earlier) = formed_step (names_before earlier) (defined_name l) (formed_name l) (formed_before earlier)

pub names_of_lines : (names : List (List ℕ)) (earlier : List LineValue) → names ≡ names_before earlier → AreNames names
unfolding AreApart
names_of_lines names earlier is = subst AreNames (sym is) (record { distinct = apart_before earlier; formed = formed_before earlier })
