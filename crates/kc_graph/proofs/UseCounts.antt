-- Uses are counted, one after another.
use Rattle.std.proofs.Common.{◌≡◌, Bool, ℕ, ◌+◌, ◌*◌, ◌<◌, ◌≤◌, zero, suc, Option, Some, List, [], ◌∷◌, ◌++◌, length, get_or, set, take, drop, cond, eqb, replicate, inl, inr, refl, sym, ap, subst, ◌∙◌, arith, length-append, length-set, zero-add}
use Rattle.std.specs.List.{slice_get, sum}
use Rattle.std.proofs.lemmas.Bool.{eq-eqb, ne_eqb}
use Rattle.std.proofs.lemmas.List.{drop_more, flat_map_more, get_or-replicate, length-replicate, take_more}
use Rattle.std.proofs.lemmas.List.Concat.{length-flat_map}
use Rattle.std.proofs.lemmas.List.Folds.{sum_by-replicate}
use Rattle.std.proofs.lemmas.List.Sums.{get_or-le-sum_by, sum_by-append, sum_by-cons, sum_by-set, sum_by_more_le}
use Rattle.kc_graph.specs.Graph.{row, use_count}
use Rattle.kc_graph.specs.Users.{times, uses_in, AddsCounts}
use Rattle.kc_graph.proofs.ListLaws.{set_cases}

pub AddsCounts-none : (counts : List ℕ) → AddsCounts counts counts []
AddsCounts-none counts = record {
  size = refl;
  total = omega arith;
  each = λ q h. omega arith;
}

pub AddsCounts-join : (a b c us vs : List ℕ) → AddsCounts a b us → AddsCounts b c vs → AddsCounts a c (us ++ vs)
AddsCounts-join a b c us vs s t = record {
  size = t.size ∙ s.size;
  total = omega (arith, s.total, t.total, length-append us vs);
  each = λ q h.
      let first = s.each q h in
      let size = s.size in
      let second = t.each q (omega arith) in
      let sum = sum_by-append (λ used. cond (eqb used q) 1 0) us vs in
      omega arith;
}

abbrev pub if_so : Bool → ℕ
if_so b = cond b 1 0

-- one more use
AddsCounts-one : (counts : List ℕ) (used : ℕ) → used < length counts → AddsCounts counts (set counts used (get_or counts used 0 + 1)) (used ∷ [])
AddsCounts-one counts used inside = record {
  size = length-set counts used (get_or counts used 0 + 1);
  total = omega (arith, sum_by-set (λ n. n) counts used (get_or counts used 0 + 1) 0 inside);
  each = λ q h.
      let one : times (used ∷ []) q ≡ cond (eqb used q) 1 0 + 0 = sum_by-cons (λ u. cond (eqb u q) 1 0) used [] in
      let Counts : ℕ → Type 0 = λ n. n ≡ get_or counts q 0 + times (used ∷ []) q in
      elim (set_cases counts used (get_or counts used 0 + 1) 0 q inside) [
        | inl e ↦
            let yes : cond (eqb used q) 1 0 ≡ 1 = ap (λ b. if_so b) (eq-eqb used q (sym e.0)) in
            let same : get_or counts q 0 ≡ get_or counts used 0 = ap (λ i. get_or counts i 0) e.0 in
            subst Counts (sym e.1) (omega arith)
        | inr e ↦
            let no : cond (eqb used q) 1 0 ≡ 0 = ap (λ b. if_so b) (ne_eqb used q (λ f. e.0 (sym f))) in
            subst Counts (sym e.1) (omega arith)
      ];
}

-- the next use of a row
pub AddsCounts-more : (old now new uses : List ℕ) (k used : ℕ) → AddsCounts old now (take k uses) → k < length uses → get_or uses k 0 ≡ used → used < length old → new ≡ set now used (get_or now used 0 + 1) → AddsCounts old new (take (k + 1) uses)
AddsCounts-more old now new uses k used s next is inside e =
    let size = s.size in
    let P : List ℕ → Type 0 = λ us. AddsCounts old new us in
    let Q : List ℕ → Type 0 = λ counts. AddsCounts now counts (used ∷ []) in
    let split : take (k + 1) uses ≡ take k uses ++ used ∷ [] = take_more uses k 0 next ∙ ap (λ u. take k uses ++ u ∷ []) is in
    subst P (sym split) (AddsCounts-join old now new (take k uses) (used ∷ []) s (subst Q (sym e) (AddsCounts-one now used (omega arith))))

-- the uses of the next row
pub uses_in-more : (g : List (List ℕ)) (k : ℕ) → k < length g → uses_in (take (k + 1) g) ≡ uses_in (take k g) ++ row g k
uses_in-more g k h = ap uses_in (take_more g k [] h) ∙ sym (flat_map_more (λ uses. uses) [] (take k g) (row g k))

pub uses_in-rest : (g : List (List ℕ)) (k : ℕ) → k < length g → uses_in (drop k g) ≡ row g k ++ uses_in (drop (k + 1) g)
uses_in-rest g k h = ap uses_in (drop_more g k [] h)

-- a place at which no use is read is past the end
pub ended : (uses : List ℕ) (i : ℕ) (read : Option ℕ) → read ≡ slice_get uses i → ((used : ℕ) → read ≡ Some used → ⊥) → length uses ≤ i
ended [] i read e none = omega arith
ended (u ∷ us) zero read e none = absurd (none u e)
ended (u ∷ us) (suc i) read e none = let h = ended us i read e none in omega arith

-- the counts that began at 0 are how often each node is used
pub count_is : (n : ℕ) (counts uses : List ℕ) (q : ℕ) → AddsCounts (replicate n 0) counts uses → q < n → get_or counts q 0 ≡ times uses q
count_is n counts uses q s h =
    let size = length-replicate {A = ℕ} n 0 in
    let none : get_or {A = ℕ} (replicate {A = ℕ} n 0) q 0 ≡ 0 = get_or-replicate {A = ℕ} n q 0 0 h in
    let grown : get_or counts q 0 ≡ get_or (replicate n 0) q 0 + times uses q = s.each q (omega (arith, size)) in
    grown ∙ ap (λ m. m + times uses q) none ∙ zero-add (times uses q)

-- a list of all uses is as long as they are many
pub length-uses_in : (g : List (List ℕ)) → length (uses_in g) ≡ use_count g
length-uses_in g = length-flat_map (λ uses. uses) g

-- the uses so far and those of the next row are no more than all uses
pub few_so_far : (g : List (List ℕ)) (counts : List ℕ) (k n : ℕ) → AddsCounts (replicate n 0) counts (uses_in (take k g)) → k < length g → sum counts + length (row g k) ≤ use_count g
few_so_far g counts k n s h =
    let none : sum (replicate n 0) ≡ n * 0 = sum_by-replicate (λ (m : ℕ). m) n 0 in
    omega (arith, s.total, none, length-uses_in (take k g), sum_by_more_le (λ us. length us) g k [] h)

-- a count is no more than their sum
pub count_within : (counts : List ℕ) (q : ℕ) → q < length counts → get_or counts q 0 ≤ sum counts
count_within counts q h = get_or-le-sum_by (λ n. n) counts q 0 h

-- the counts that began at 0 are together as many as the uses
pub total_is : (g : List (List ℕ)) (counts : List ℕ) → AddsCounts (replicate (length g) 0) counts (uses_in g) → sum counts ≡ use_count g
total_is g counts s =
    let none : sum (replicate (length g) 0) ≡ length g * 0 = sum_by-replicate (λ (m : ℕ). m) (length g) 0 in
    omega (arith, s.total, none, length-uses_in g)
