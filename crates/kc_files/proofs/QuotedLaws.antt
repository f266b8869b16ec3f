-- Where a text in quotes drops a backslash.
use Rattle.std.proofs.Common.{◌≡◌, ℕ, ◌+◌, ◌==◌, Bool, true, false, List, [], ◌∷◌, ◌++◌, length, Option, Some, None, MatchOption, if◌then◌else◌, refl, sym, ap, subst, ◌∙◌, arith}
use Rattle.std.specs.Prelude.{option_map}
use Rattle.std.proofs.lemmas.Bool.{eqb-true, or_from, or_parts}
use Rattle.std.proofs.lemmas.Option.{none-some, same_Some}
use Rattle.kc_files.specs.Quoting.{escaped, is_special}
use Rattle.kc_files.specs.QuotedBytes.{LosesAt, lost_from}

-- a place so many bytes further
abbrev pub moved : ℕ → Option ℕ → Option ℕ
moved i o = option_map (λ n. n + i) o

-- ---- what is found where a backslash is dropped
special_step : (c : ℕ) (more : List ℕ) → is_special c ≡ true → lost_from false (92 ∷ c ∷ more) ≡ moved 1 (moved 1 (lost_from false more))
special_step c more is = ap (λ (x : Bool). moved 1 (if x then moved 1 (lost_from false more) else Some 0)) is

plain_step : (c : ℕ) (more : List ℕ) → is_special c ≡ false → lost_from false (c ∷ more) ≡ moved 1 (lost_from false more)
plain_step c more is =
    let parts = or_parts (c == 34) (c == 92) is in
    ap (λ (x : Bool). if x then None else moved 1 (lost_from (c == 92) more)) parts.0 ∙ ap (λ (x : Bool). moved 1 (lost_from x more)) parts.1

lost_at : (text : List ℕ) (b : ℕ) (rest : List ℕ) → is_special b ≡ false → lost_from false (escaped text ++ (92 ∷ b ∷ rest)) ≡ Some (length (escaped text) + 1)
lost_at [] b rest plain = ap (λ (x : Bool). moved 1 (if x then moved 1 (lost_from false rest) else Some 0)) plain
lost_at (c ∷ cs) b rest plain = go (is_special c) refl (lost_at cs b rest plain)
  where
    go : (x : Bool) → is_special c ≡ x → lost_from false (escaped cs ++ (92 ∷ b ∷ rest)) ≡ Some (length (escaped cs) + 1)
        → lost_from false (((if x then 92 ∷ c ∷ [] else c ∷ []) ++ escaped cs) ++ (92 ∷ b ∷ rest)) ≡ Some (length ((if x then 92 ∷ c ∷ [] else c ∷ []) ++ escaped cs) + 1)
    go true is more = special_step c (escaped cs ++ (92 ∷ b ∷ rest)) is ∙ ap (λ o. moved 1 (moved 1 o)) more ∙ ap Some (omega arith)
    go false is more = plain_step c (escaped cs ++ (92 ∷ b ∷ rest)) is ∙ ap (moved 1) more ∙ ap Some (omega arith)

to_some : (raw : List ℕ) (n : ℕ) → LosesAt raw n → lost_from false raw ≡ Some n
to_some raw n h = ap (lost_from false) h.4 ∙ lost_at h.0 h.1 h.2 h.3 ∙ ap Some (sym h.5)

-- ---- a backslash is dropped where one is found
with_plain : (c : ℕ) (bs : List ℕ) (n : ℕ) → is_special c ≡ false → LosesAt bs n → LosesAt (c ∷ bs) (n + 1)
with_plain c bs n is h =
    let grown : escaped (c ∷ h.0) ≡ c ∷ escaped h.0 = ap (λ (x : Bool). (if x then 92 ∷ c ∷ [] else c ∷ []) ++ escaped h.0) is in
    (c ∷ h.0, h.1, h.2, h.3, ap (λ r. c ∷ r) h.4 ∙ ap (λ w. w ++ (92 ∷ h.1 ∷ h.2)) (sym grown), omega (arith, h.5, ap length grown))

with_special : (c : ℕ) (bs : List ℕ) (n : ℕ) → is_special c ≡ true → LosesAt bs n → LosesAt (92 ∷ c ∷ bs) (n + 1 + 1)
with_special c bs n is h =
    let grown : escaped (c ∷ h.0) ≡ 92 ∷ c ∷ escaped h.0 = ap (λ (x : Bool). (if x then 92 ∷ c ∷ [] else c ∷ []) ++ escaped h.0) is in
    (c ∷ h.0, h.1, h.2, h.3, ap (λ r. 92 ∷ c ∷ r) h.4 ∙ ap (λ w. w ++ (92 ∷ h.1 ∷ h.2)) (sym grown), omega (arith, h.5, ap length grown))

at_once : (c : ℕ) (bs : List ℕ) → is_special c ≡ false → LosesAt (92 ∷ c ∷ bs) (0 + 1)
at_once c bs plain = ([], c, bs, plain, refl, omega arith)

one_less : (o : Option ℕ) (n : ℕ) → moved 1 o ≡ Some n → (m : ℕ) × (o ≡ Some m) × (n ≡ m + 1)
one_less None n e = absurd (none-some n e)
one_less (Some m) n e = (m, refl, sym (same_Some (m + 1) n e))

abbrev Finds : List ℕ → Type 0
Finds bs = (n : ℕ) → lost_from false bs ≡ Some n → LosesAt bs n

behind_backslash : (c : ℕ) (bs : List ℕ) (n : ℕ) (x : Bool) → is_special c ≡ x → (if x then moved 1 (lost_from false bs) else Some 0) ≡ Some n → Finds bs
    → LosesAt (92 ∷ c ∷ bs) (n + 1)
behind_backslash c bs n true is e more =
    let h = one_less (lost_from false bs) n e in
    subst (λ (k : ℕ). LosesAt (92 ∷ c ∷ bs) (k + 1)) (sym h.2) (with_special c bs h.0 is (more h.0 h.1))
behind_backslash c bs n false is e more = subst (λ (k : ℕ). LosesAt (92 ∷ c ∷ bs) (k + 1)) (same_Some 0 n e) (at_once c bs is)

at_byte : (b c : ℕ) (bs : List ℕ) (n : ℕ) (x : Bool) → (b == 34) ≡ x → (y : Bool) → (b == 92) ≡ y
    → (if x then None else moved 1 (lost_from y (c ∷ bs))) ≡ Some n → Finds (c ∷ bs) → Finds bs → LosesAt (b ∷ c ∷ bs) n
at_byte b c bs n true quote y slash e one two = absurd (none-some n e)
at_byte b c bs n false quote true slash e one two =
    let h = one_less (lost_from true (c ∷ bs)) n e in
    let found : LosesAt (92 ∷ c ∷ bs) (h.0 + 1) = behind_backslash c bs h.0 (is_special c) refl h.1 two in
    subst (λ (k : ℕ). LosesAt (b ∷ c ∷ bs) k) (sym h.2) (subst (λ (d : ℕ). LosesAt (d ∷ c ∷ bs) (h.0 + 1)) (sym (eqb-true b 92 slash)) found)
at_byte b c bs n false quote false slash e one two =
    let h = one_less (lost_from false (c ∷ bs)) n e in
    subst (λ (k : ℕ). LosesAt (b ∷ c ∷ bs) k) (sym h.2) (with_plain b (c ∷ bs) h.0 (or_from (b == 34) (b == 92) quote slash) (one h.0 h.1))

at_last : (n : ℕ) (x y : Bool) → (if x then None else moved 1 (lost_from y [])) ≡ Some n → ⊥
at_last n true y e = none-some n e
at_last n false true e = none-some n e
at_last n false false e = none-some n e

from_some : (raw : List ℕ) → Finds raw
from_some [] n e = absurd (none-some n e)
from_some (b ∷ []) n e = absurd (at_last n (b == 34) (b == 92) e)
from_some (b ∷ c ∷ bs) n e = at_byte b c bs n (b == 34) refl (b == 92) refl e (from_some (c ∷ bs)) (from_some bs)

-- a place is found just where a backslash is dropped
pub loses : (raw : List ℕ) (o : Option ℕ) → o ≡ lost_from false raw → MatchOption o ((n : ℕ) → LosesAt raw n → ⊥) (LosesAt raw)
loses raw None e = λ n h. none-some n (e ∙ to_some raw n h)
loses raw (Some n) e = from_some raw n (sym e)
