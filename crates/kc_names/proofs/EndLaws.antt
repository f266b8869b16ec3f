-- What comes after each `_` in names.
use Rattle.std.proofs.Common.{◌≡◌, ◌≢◌, ◌⊎◌, ◌+◌, ◌<◌, ◌≤◌, ℕ, Bool, true, false, List, ◌∷◌, ◌++◌, Option, None, Some, slice_get, length, drop, refl, sym, ap, ◌∙◌, subst, inl, inr, arith}
use Rattle.std.specs.Bool.{Decides}
use Rattle.std.specs.Str.{bytes_eq}
use Rattle.std.proofs.lemmas.Bool.{cases_lt, false≢true}
use Rattle.std.proofs.lemmas.Option.{get_or_from_slice_get, none-some, same_Some, slice_get_read, slice_get_within}
use Rattle.std.proofs.lemmas.Slice.Eq.{bytes_eq-Decides}
use Rattle.std.proofs.Math.Seq.{drop-append_seam}
use Rattle.kc_names.specs.declared.name_forms.Kept.{Kept}
use Rattle.kc_names.specs.NameEnds.{HasEnds, IsEndOf, IsEnding, IsOnly, IsOtherAt, IsOtherOf, KeepsEnds}
use Rattle.kc_names.specs.NameForms.{IsKept, KeepsMore, lowered}

-- what comes after each `_` before a place, and then one place more
pub ends_more : (kept more : List Kept) (name : List ℕ) (place number : ℕ) (v : List ℕ) → v ≡ drop place name → KeepsMore kept more
    → ((rest : List ℕ) → v ≡ 95 ∷ rest → IsKept more (lowered rest) number)
    → ((before rest : List ℕ) → name ≡ before ++ 95 ∷ rest → length before < place → IsKept kept (lowered rest) number)
    → (before rest : List ℕ) → name ≡ before ++ 95 ∷ rest → length before < place + 1 → IsKept more (lowered rest) number
ends_more kept more name place number v is_v grows here earlier before rest is within = go (cases_lt (length before) place)
  where
    go : (length before < place) ⊎ (place ≤ length before) → IsKept more (lowered rest) number
    go (inl below) = grows _ (earlier before rest is below)
    go (inr above) =
        let at : length before ≡ place = omega (arith, within, above) in
        here rest (is_v ∙ ap (drop place) is ∙ ap (λ n. drop n (before ++ 95 ∷ rest)) (sym at) ∙ drop-append_seam before (95 ∷ rest))

-- one name more
pub names_more : (kept more : List Kept) (names : List (List ℕ)) (n : ℕ) (here : List ℕ) → slice_get names n ≡ Some here
    → KeepsMore kept more → KeepsEnds more n here
    → ((j : ℕ) (b : List ℕ) → j < n → slice_get names j ≡ Some b → KeepsEnds kept j b)
    → (j : ℕ) (b : List ℕ) → j < n + 1 → slice_get names j ≡ Some b → KeepsEnds more j b
names_more kept more names n here is_here grows keeps earlier j b within is = go (cases_lt j n)
  where
    go : (j < n) ⊎ (n ≤ j) → KeepsEnds more j b
    go (inl below) = λ short before rest split. grows _ (earlier j b below is short before rest split)
    go (inr above) =
        let same : j ≡ n = omega (arith, within, above) in
        let named : b ≡ here = same_Some b here (sym is ∙ ap (slice_get names) same ∙ is_here) in
        subst (λ k. KeepsEnds more k b) (sym same) (subst (λ l. KeepsEnds more n l) (sym named) keeps)

-- a name that ends so is kept by the bytes that it ends in
pub kept_end : (names : List (List ℕ)) (kept : List Kept) (excepted : Option (List ℕ)) (name : List ℕ) (number : ℕ) → HasEnds names kept
    → IsOtherAt names excepted name number → IsKept kept (lowered name) number
kept_end names kept excepted name number has (b, is, other, (four, short, (before, rest, split, alike))) =
    subst (λ form. IsKept kept form number) (sym alike) (has.ends number b is short before rest split)

-- ---- the only one
pub other_named : (names : List (List ℕ)) (excepted : Option (List ℕ)) (a : List ℕ) (number : ℕ) (found : Option (List ℕ))
    → IsOtherAt names excepted a number → found ≡ slice_get names number → IsOtherOf names excepted a found
other_named names excepted a number found (b, is, other, ends) same =
    subst (λ o. IsOtherOf names excepted a o) (sym (same ∙ is)) (record { holds = (number, is, other, ends); none = tt })

pub other_none : (names : List (List ℕ)) (excepted : Option (List ℕ)) (a : List ℕ) → ((k : ℕ) → IsOtherAt names excepted a k → ⊥)
    → IsOtherOf names excepted a None
other_none names excepted a none = record { holds = tt; none = none }

-- a name of the list, by its number
numbered : (names : List (List ℕ)) (excepted : Option (List ℕ)) (a b : List ℕ) → IsEnding names a b → excepted ≢ Some b
    → (k : ℕ) × IsOtherAt names excepted a k
numbered names excepted a b ((k, within, here), ends) other = (k, (b, slice_get_read names (length names) k b refl within (sym here), other, ends))

-- and a name by its number is one of the list
ending_of : (names : List (List ℕ)) (excepted : Option (List ℕ)) (a b : List ℕ) → IsOtherOf names excepted a (Some b) → IsEnding names a b
ending_of names excepted a b of = go of.holds
  where
    go : (k : ℕ) × (slice_get names k ≡ Some b) × (excepted ≢ Some b) × IsEndOf a b → IsEnding names a b
    go (k, is, other, ends) = ((k, slice_get_within names k b is, get_or_from_slice_get names k b b is), ends)

-- two names are the same or not
holds_or : (r : Bool) (P : Type 0) → Decides r P → P ⊎ (P → ⊥)
holds_or true P decides = inl (decides.0 refl)
holds_or false P decides = inr (λ p. false≢true (decides.1 p))

same_or : (b c : List ℕ) → (b ≡ c) ⊎ (b ≢ c)
same_or b c = holds_or (bytes_eq b c) (b ≡ c) (bytes_eq-Decides b c)

pub only_none : (names : List (List ℕ)) (a : List ℕ) → IsOtherOf names None a None → IsOnly (IsEnding names a) None
only_none names a of = record {
  one = tt;
  several = λ b p. let at = numbered names None a b p (λ e. none-some b e) in absurd (of.none at.0 at.1);
}

pub only_two : (names : List (List ℕ)) (a b c : List ℕ) → IsOtherOf names None a (Some b) → IsOtherOf names (Some b) a (Some c)
    → IsOnly (IsEnding names a) None
only_two names a b c of next = record { one = tt; several = λ d p. beside d (same_or d b) }
  where
    apart : Some b ≢ Some c
    apart = let (k, is, other, ends) = next.holds in other

    beside : (d : List ℕ) → (d ≡ b) ⊎ (d ≢ b) → (e : List ℕ) × IsEnding names a e × (e ≢ d)
    beside d (inl same) = (c, ending_of names (Some b) a c next, λ e. apart (ap Some (sym (e ∙ same))))
    beside d (inr other) = (b, ending_of names None a b of, λ e. other (sym e))

pub only_one : (names : List (List ℕ)) (a b : List ℕ) → IsOtherOf names None a (Some b) → IsOtherOf names (Some b) a None
    → IsOnly (IsEnding names a) (Some b)
only_one names a b of next = record { one = (ending_of names None a b of, λ c p. alone c p (same_or c b)); several = tt }
  where
    alone : (c : List ℕ) → IsEnding names a c → (c ≡ b) ⊎ (c ≢ b) → c ≡ b
    alone c p (inl same) = same
    alone c p (inr other) = let at = numbered names (Some b) a c p (λ e. other (sym (same_Some b c e))) in absurd (next.none at.0 at.1)
