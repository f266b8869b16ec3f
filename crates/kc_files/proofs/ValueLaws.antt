-- The value of a line is the one that its definition says, and the only one.
use Rattle.std.proofs.Common.{◌≡◌, ◌⊎◌, inl, inr, ℕ, ◌==◌, Bool, true, false, List, [], ◌∷◌, ◌++◌, Option, Some, None, if◌then◌else◌, refl, sym, ap, subst, ◌∙◌}
use Rattle.std.specs.Prelude.{codes, option_map, is_some}
use Rattle.std.specs.Str.{bytes_eq}
use Rattle.std.proofs.lemmas.Bool.{true≢false, eqb-true, or_parts, or_from}
use Rattle.std.proofs.lemmas.Slice.Eq.{bytes_eq-Decides}
use Rattle.std.proofs.lemmas.Option.{none-some, same_Some}
use Rattle.kc_statement.specs.declared.tri.Tri.TheVariants.{No, Module, Yes}
use Rattle.kc_statement.specs.declared.symbol_type.SymbolType.{SymbolType}
use Rattle.kc_statement.specs.declared.symbol_type.SymbolType.TheVariants as kind
use Rattle.kc_statement.specs.Numerals.{numeral_in}
use Rattle.kc_tree.specs.declared.user_value.UserVal.{UserVal}
use Rattle.kc_tree.specs.declared.user_value.UserVal.TheVariants.{Tri as TriVal, Text}
use Rattle.kc_tree.specs.Fits.{fits_type}
use Rattle.kc_files.specs.Quoting.{is_special}
use Rattle.kc_files.specs.Unquoting.{Spells, IsQuoted}
use Rattle.kc_files.specs.ValueForm.{Gives, GivesNo}
use Rattle.kc_files.specs.ReadingSteps.{text_from, unquoted, value_given, no_given}

-- ---- texts in quotes
pub spelt_read : (text raw tail : List ℕ) → Spells raw text → text_from false (raw ++ 34 ∷ tail) ≡ Some text
spelt_read [] raw tail h = ap (λ r. text_from false (r ++ 34 ∷ tail)) h
spelt_read (b ∷ text) raw tail h = go h.2 (spelt_read text h.0 tail h.1)
  where
    go : ((is_special b ≡ false) × (raw ≡ b ∷ h.0)) ⊎ (raw ≡ 92 ∷ b ∷ h.0) → text_from false (h.0 ++ 34 ∷ tail) ≡ Some text → text_from false (raw ++ 34 ∷ tail) ≡ Some (b ∷ text)
    go (inl p) more =
        let plain = or_parts (b == 34) (b == 92) p.0 in
        let behind = h.0 ++ 34 ∷ tail in
        ap (λ r. text_from false (r ++ 34 ∷ tail)) p.1
        ∙ ap (λ x. if x then Some [] else (if b == 92 then text_from true behind else option_map (λ w. b ∷ w) (text_from false behind))) plain.0
        ∙ ap (λ x. if x then text_from true behind else option_map (λ w. b ∷ w) (text_from false behind)) plain.1
        ∙ ap (option_map (λ w. b ∷ w)) more
    go (inr e) more = ap (λ r. text_from false (r ++ 34 ∷ tail)) e ∙ ap (option_map (λ w. b ∷ w)) more

-- the backslash that stands before
abbrev lead : Bool → List ℕ
lead true = 92 ∷ []
lead false = []

abbrev IsSpelt : Bool → List ℕ → List ℕ → Type 0
IsSpelt escape bs w = (raw : List ℕ) × (tail : List ℕ) × Spells (lead escape ++ raw) w × (bs ≡ raw ++ 34 ∷ tail)

escaped_byte : (b : ℕ) (bs w : List ℕ) (o : Option (List ℕ)) → ((v : List ℕ) → o ≡ Some v → IsSpelt false bs v) → option_map (λ v. b ∷ v) o ≡ Some w → IsSpelt true (b ∷ bs) w
escaped_byte b bs w None more h = absurd (none-some w h)
escaped_byte b bs w (Some v) more h =
    let m = more v refl in
    subst (IsSpelt true (b ∷ bs)) (same_Some (b ∷ v) w h) (b ∷ m.0, m.1, (m.0, m.2, inr refl), ap (λ r. b ∷ r) m.3)

plain_byte : (b : ℕ) (bs w : List ℕ) (o : Option (List ℕ)) → is_special b ≡ false → ((v : List ℕ) → o ≡ Some v → IsSpelt false bs v) → option_map (λ v. b ∷ v) o ≡ Some w → IsSpelt false (b ∷ bs) w
plain_byte b bs w None plain more h = absurd (none-some w h)
plain_byte b bs w (Some v) plain more h =
    let m = more v refl in
    subst (IsSpelt false (b ∷ bs)) (same_Some (b ∷ v) w h) (b ∷ m.0, m.1, (m.0, m.2, inl (plain, refl)), ap (λ r. b ∷ r) m.3)

text_spelt : (bs : List ℕ) (escape : Bool) (w : List ℕ) → text_from escape bs ≡ Some w → IsSpelt escape bs w
text_spelt [] escape w h = absurd (none-some w h)
text_spelt (b ∷ bs) true w h = escaped_byte b bs w (text_from false bs) (text_spelt bs false) h
text_spelt (b ∷ bs) false w h = go (b == 34) (b == 92) refl refl h (text_spelt bs false) (text_spelt bs true w)
  where
    go : (x y : Bool) → (b == 34) ≡ x → (b == 92) ≡ y
        → (if x then Some [] else (if y then text_from true bs else option_map (λ v. b ∷ v) (text_from false bs))) ≡ Some w
        → ((v : List ℕ) → text_from false bs ≡ Some v → IsSpelt false bs v) → (text_from true bs ≡ Some w → IsSpelt true bs w) → IsSpelt false (b ∷ bs) w
    go true y e f h plain escaped = ([], bs, subst (Spells []) (same_Some [] w h) refl, ap (λ d. d ∷ bs) (eqb-true b 34 e))
    go false true e f h plain escaped =
        let m = escaped h in
        (92 ∷ m.0, m.1, m.2, (λ i. eqb-true b 92 f i ∷ m.3 i))
    go false false e f h plain escaped = plain_byte b bs w (text_from false bs) (or_from (b == 34) (b == 92) e f) plain h

pub unquoted_is : (value text : List ℕ) → unquoted value ≡ Some text → IsQuoted value text
unquoted_is [] text h = absurd (none-some text h)
unquoted_is (b ∷ bs) text h = go (b == 34) refl h
  where
    go : (x : Bool) → (b == 34) ≡ x → (if x then text_from false bs else None) ≡ Some text → IsQuoted (b ∷ bs) text
    go true e h =
        let m = text_spelt bs false text h in
        (m.0, m.1, m.2, (λ i. eqb-true b 34 e i ∷ m.3 i))
    go false e h = absurd (none-some text h)

pub unquoted_only : (value text : List ℕ) → IsQuoted value text → unquoted value ≡ Some text
unquoted_only value text h = ap unquoted h.3 ∙ spelt_read text h.0 h.1 h.2

-- ---- the other types
same_bytes : (w v : List ℕ) → bytes_eq w v ≡ true → w ≡ v
same_bytes w v e = (bytes_eq-Decides w v).0 e

bool_gives : (w : List ℕ) (v : UserVal) (x y : Bool) → bytes_eq w (codes "n") ≡ x → bytes_eq w (codes "y") ≡ y
    → option_map TriVal (if x then Some No else (if y then Some Yes else None)) ≡ Some v → Gives w kind.Bool v
bool_gives w v true y e f h = subst (Gives w kind.Bool) (same_Some (TriVal No) v h) (refl, same_bytes w (codes "n") e)
bool_gives w v false true e f h = subst (Gives w kind.Bool) (same_Some (TriVal Yes) v h) (refl, same_bytes w (codes "y") f)
bool_gives w v false false e f h = absurd (none-some v h)

tristate_gives : (w : List ℕ) (v : UserVal) (z x y : Bool) → bytes_eq w (codes "m") ≡ z → bytes_eq w (codes "n") ≡ x → bytes_eq w (codes "y") ≡ y
    → option_map TriVal (if z then Some Module else (if x then Some No else (if y then Some Yes else None))) ≡ Some v → Gives w kind.Tristate v
tristate_gives w v true x y d e f h = subst (Gives w kind.Tristate) (same_Some (TriVal Module) v h) (refl, same_bytes w (codes "m") d)
tristate_gives w v false true y d e f h = subst (Gives w kind.Tristate) (same_Some (TriVal No) v h) (refl, same_bytes w (codes "n") e)
tristate_gives w v false false true d e f h = subst (Gives w kind.Tristate) (same_Some (TriVal Yes) v h) (refl, same_bytes w (codes "y") f)
tristate_gives w v false false false d e f h = absurd (none-some v h)

string_gives : (w : List ℕ) (v : UserVal) (o : Option (List ℕ)) → unquoted w ≡ o → option_map Text o ≡ Some v → Gives w kind.String v
string_gives w v None e h = absurd (none-some v h)
string_gives w v (Some text) e h = subst (Gives w kind.String) (same_Some (Text text) v h) (refl, unquoted_is w text e)

int_gives : (w : List ℕ) (v : UserVal) (x : Bool) → is_some (numeral_in kind.Int w) ≡ x → (if x then Some (Text w) else None) ≡ Some v → Gives w kind.Int v
int_gives w v true e h = subst (Gives w kind.Int) (same_Some (Text w) v h) (e, refl)
int_gives w v false e h = absurd (none-some v h)

hex_gives : (w : List ℕ) (v : UserVal) (x : Bool) → is_some (numeral_in kind.Hex w) ≡ x → (if x then Some (Text w) else None) ≡ Some v → Gives w kind.Hex v
hex_gives w v true e h = subst (Gives w kind.Hex) (same_Some (Text w) v h) (e, refl)
hex_gives w v false e h = absurd (none-some v h)

pub given_gives : (w : List ℕ) (k : SymbolType) (v : UserVal) → value_given w k ≡ Some v → Gives w k v
given_gives w kind.Bool v h = bool_gives w v (bytes_eq w (codes "n")) (bytes_eq w (codes "y")) refl refl h
given_gives w kind.Tristate v h = tristate_gives w v (bytes_eq w (codes "m")) (bytes_eq w (codes "n")) (bytes_eq w (codes "y")) refl refl refl h
given_gives w kind.String v h = string_gives w v (unquoted w) refl h
given_gives w kind.Int v h = int_gives w v (is_some (numeral_in kind.Int w)) refl h
given_gives w kind.Hex v h = hex_gives w v (is_some (numeral_in kind.Hex w)) refl h

pub given_only : (w : List ℕ) (k : SymbolType) (v : UserVal) → Gives w k v → value_given w k ≡ Some v
given_only w kind.Bool (TriVal No) h = ap (λ r. value_given r kind.Bool) h.1
given_only w kind.Bool (TriVal Module) h = absurd (true≢false (sym h.0))
given_only w kind.Bool (TriVal Yes) h = ap (λ r. value_given r kind.Bool) h.1
given_only w kind.Bool (Text v) h = absurd (true≢false (sym h.0))
given_only w kind.Tristate (TriVal No) h = ap (λ r. value_given r kind.Tristate) h.1
given_only w kind.Tristate (TriVal Module) h = ap (λ r. value_given r kind.Tristate) h.1
given_only w kind.Tristate (TriVal Yes) h = ap (λ r. value_given r kind.Tristate) h.1
given_only w kind.Tristate (Text v) h = absurd (true≢false (sym h.0))
given_only w kind.String (TriVal v) h = absurd (true≢false (sym h.0))
given_only w kind.String (Text v) h = ap (option_map Text) (unquoted_only w v h.1)
given_only w kind.Int (TriVal v) h = absurd (true≢false (sym h.0))
given_only w kind.Int (Text v) h = ap (λ r. value_given r kind.Int) h.1 ∙ ap (λ x. if x then Some (Text v) else None) h.0
given_only w kind.Hex (TriVal v) h = absurd (true≢false (sym h.0))
given_only w kind.Hex (Text v) h = ap (λ r. value_given r kind.Hex) h.1 ∙ ap (λ x. if x then Some (Text v) else None) h.0

pub no_gives : (k : SymbolType) (v : UserVal) → no_given k ≡ Some v → GivesNo k v
no_gives kind.Bool v h = subst (GivesNo kind.Bool) (same_Some (TriVal No) v h) (refl, refl)
no_gives kind.Tristate v h = subst (GivesNo kind.Tristate) (same_Some (TriVal No) v h) (refl, refl)
no_gives kind.String v h = absurd (none-some v h)
no_gives kind.Int v h = absurd (none-some v h)
no_gives kind.Hex v h = absurd (none-some v h)

pub no_only : (k : SymbolType) (v : UserVal) → GivesNo k v → no_given k ≡ Some v
no_only kind.Bool v h = ap Some (sym h.1)
no_only kind.Tristate v h = ap Some (sym h.1)
no_only kind.String v h = absurd (true≢false (sym h.0 ∙ ap (fits_type kind.String) h.1))
no_only kind.Int v h = absurd (true≢false (sym h.0 ∙ ap (fits_type kind.Int) h.1))
no_only kind.Hex v h = absurd (true≢false (sym h.0 ∙ ap (fits_type kind.Hex) h.1))
