-- How many values are kept: the number of places bounds it, and so do the places that were emptied.
use Rattle.std.proofs.Common.{◌≡◌, ◌⊎◌, ℕ, zero, suc, ◌+◌, ◌<◌, ◌≤◌, List, [], ◌∷◌, length, take, Option, Some, None, get_or, set, refl, sym, ap, ◌∙◌, inl, inr, arith}
use Rattle.std.specs.List.{Contains}
use Rattle.std.proofs.lemmas.Bool.{cases_eq}
use Rattle.std.proofs.lemmas.List.{ext_get_or, get_or-set_other, length-set, get_or-take, length-take-le, take-set-le}
use Rattle.std.proofs.lemmas.Option.{none-some}
use Rattle.std.proofs.Math.Seq.{take-set-lt}
use Rattle.kc_outline.specs.TreeValue.{TreeValue}
use Rattle.kc_tree.specs.Nodes.{node_count}
use Rattle.std.proofs.lemmas.Grind.{get_or-set_at}
use Rattle.kc_value.specs.declared.value.Value.{Value}
use Rattle.kc_value.specs.Kept.{value_count, kept_count}

pub value_count-within : (kept : List (Option Value)) → value_count kept ≤ length kept
unfolding value_count
value_count-within [] = omega arith
value_count-within (None ∷ kept) = let rest : value_count kept ≤ length kept = value_count-within kept in omega (arith, rest)
value_count-within (Some v ∷ kept) = let rest : value_count kept ≤ length kept = value_count-within kept in omega (arith, rest)

-- a place that had no value has one
pub value_count-more : (kept : List (Option Value)) (k : ℕ) (v : Value) → k < length kept → get_or kept k None ≡ None → value_count (set kept k (Some v)) ≡ suc (value_count kept)
unfolding value_count
value_count-more [] k v within none = absurd (omega (arith, within))
value_count-more (None ∷ kept) zero v within none = refl
value_count-more (Some w ∷ kept) zero v within none = cc
value_count-more (None ∷ kept) (suc k) v within none = value_count-more kept k v (omega (arith, within)) none
value_count-more (Some w ∷ kept) (suc k) v within none = ap suc (value_count-more kept k v (omega (arith, within)) none)

-- a place that had a value has none
pub value_count-fewer : (kept : List (Option Value)) (k : ℕ) (v : Value) → get_or kept k None ≡ Some v → suc (value_count (set kept k None)) ≡ value_count kept
unfolding value_count
value_count-fewer [] k v e = absurd (none-some v e)
value_count-fewer (None ∷ kept) zero v e = absurd (none-some v e)
value_count-fewer (Some w ∷ kept) zero v e = refl
value_count-fewer (None ∷ kept) (suc k) v e = value_count-fewer kept k v e
value_count-fewer (Some w ∷ kept) (suc k) v e = ap suc (value_count-fewer kept k v e)

-- where one place becomes another's value, one value less is kept at the most
value_count-less : (kept : List (Option Value)) (k : ℕ) (v : Option Value) → value_count kept ≤ value_count (set kept k v) + 1
unfolding value_count
value_count-less [] k v = omega arith
value_count-less (None ∷ kept) zero None = omega arith
value_count-less (None ∷ kept) zero (Some w) = omega arith
value_count-less (Some x ∷ kept) zero None = omega arith
value_count-less (Some x ∷ kept) zero (Some w) = omega arith
value_count-less (None ∷ kept) (suc k) v = value_count-less kept k v
value_count-less (Some x ∷ kept) (suc k) v = let rest : value_count kept ≤ value_count (set kept k v) + 1 = value_count-less kept k v in omega (arith, rest)

-- the first element of a list, or one of the others
first_or_later : (first : ℕ) (rest : List ℕ) (k : ℕ) → Contains (first ∷ rest) k → (k ≡ first) ⊎ Contains rest k
first_or_later first rest k h = by_place h.0 h.1 h.2
  where
    by_place : (j : ℕ) → j < length (first ∷ rest) → get_or (first ∷ rest) j k ≡ k → (k ≡ first) ⊎ Contains rest k
    by_place zero below e = inl (sym e)
    by_place (suc j) below e = inr (j, omega (arith, below), e)

-- the same at each place but for some numbers
abbrev pub DiffersWithin : List ℕ → List (Option Value) → List (Option Value) → Type 0
DiffersWithin numbers old new = (k : ℕ) → k < length old → (get_or new k None ≡ get_or old k None) ⊎ Contains numbers k

none_contained : (k : ℕ) → Contains [] k → ⊥
none_contained k h = omega (arith, h.1)

module _ (new : List (Option Value)) where
  -- with the one place as it is in the new list, the others differ
  one_less : (number : ℕ) (numbers : List ℕ) (old : List (Option Value)) → DiffersWithin (number ∷ numbers) old new
      → DiffersWithin numbers (set old number (get_or new number None)) new
  one_less number numbers old differs k below =
      let inside : k < length old = omega (arith, length-set old number (get_or new number None)) in
      elim (cases_eq k number) [
        | inl same ↦ inl (ap (λ j. get_or new j None) same ∙ sym (get_or-set_at old number k (get_or new number None) None same (omega arith)))
        | inr other ↦
            let stays : get_or (set old number (get_or new number None)) k None ≡ get_or old k None = get_or-set_other old number k (get_or new number None) None other in
            elim (differs k inside) [
              | inl same ↦ inl (same ∙ sym stays)
              | inr listed ↦ elim (first_or_later number numbers k listed) [
                | inl is ↦ absurd (other is)
                | inr later ↦ inr later
              ]
            ]
      ]

  -- so many values less are kept at the most as there are numbers
  pub value_count-differs : (numbers : List ℕ) (old : List (Option Value)) → length old ≡ length new → DiffersWithin numbers old new
      → value_count old ≤ value_count new + length numbers
  value_count-differs [] old whole differs =
      let same : old ≡ new = ext_get_or None old new whole (λ k below. elim (differs k below) [ inl e ↦ sym e | inr listed ↦ absurd (none_contained k listed) ]) in
      omega (arith, ap value_count same)
  value_count-differs (number ∷ numbers) old whole differs =
      let v : Option Value = get_or new number None in
      let fewer : value_count (set old number v) ≤ value_count new + length numbers =
      value_count-differs numbers (set old number v) (length-set old number v ∙ whole) (one_less number numbers old differs) in
      omega (arith, fewer, value_count-less old number v)

-- ---- the values of nodes alone
module _ (t : TreeValue) (kept : List (Option Value)) where
  -- those of a node that is kept now, too
  pub kept_count-node : (k : ℕ) (v : Value) → k < node_count t → node_count t ≤ length kept → get_or kept k None ≡ None → kept_count t (set kept k (Some v)) ≡ suc (kept_count t kept)
  kept_count-node k v below whole none =
      let few : List (Option Value) = take (node_count t) kept in
      let within : k < length few = omega (arith, below, length-take-le (node_count t) kept whole) in
      ap value_count (take-set-lt (node_count t) kept k (Some v) below) ∙ value_count-more few k v within (get_or-take (node_count t) kept k None below ∙ none)

  -- and not that of a condition
  pub kept_count-condition : (k : ℕ) (v : Value) → node_count t ≤ k → kept_count t (set kept k (Some v)) ≡ kept_count t kept
  kept_count-condition k v past = ap value_count (take-set-le (node_count t) kept k (Some v) past)
