-- The users of a graph's nodes are collected a use, and a node, at a time.
use Rattle.std.proofs.Common.{◌≡◌, ◌≢◌, ℕ, ◌+◌, ◌<◌, ◌≤◌, ◌⊎◌, List, [], ◌∷◌, ◌++◌, length, get_or, take, Contains, inl, inr, sym, ap, subst, ◌∙◌, arith}
use Rattle.std.proofs.lemmas.Bool.{cases_eq, cases_lt}
use Rattle.std.proofs.lemmas.List.{take_more}
use Rattle.std.proofs.lemmas.List.Elements.{Contains-append_left, Contains-push, Contains-push_cases}
use Rattle.kc_graph.specs.Graph.{row, IsConverse}
use Rattle.kc_graph.specs.Users.{AddsUser, IsConverseBelow}
use Rattle.kc_graph.proofs.GraphLaws.{user-within}

-- a user is added at none of its uses
pub AddsUser-none : (old : ℕ → List ℕ) (user : ℕ) → AddsUser old old [] user
AddsUser-none old user = record {
  kept = λ q p u. u;
  added = λ q c. let k : c.0 < 0 = c.1 in absurd (omega arith);
  only = λ q p u. inl u;
}

-- a user is added at the next of its uses
module _ (old now new : ℕ → List ℕ) (uses : List ℕ) (user k used : ℕ) (s : AddsUser old now (take k uses) user) (inside : k < length uses) (is : get_or uses k 0 ≡ used) (grown : new used ≡ now used ++ user ∷ []) (same : (q : ℕ) → q ≢ used → new q ≡ now q) where
  split : take (k + 1) uses ≡ take k uses ++ used ∷ []
  split = take_more uses k 0 inside ∙ ap (λ u. take k uses ++ u ∷ []) is

  longer : (q : ℕ) → Contains (take k uses) q → Contains (take (k + 1) uses) q
  longer q c = rw split (Contains-append_left (take k uses) (used ∷ []) q c)

  more : (q p : ℕ) → Contains (now q) p → Contains (new q) p
  more q p u = elim (cases_eq q used) [
    | inl e ↦ rw (e, grown) (Contains-append_left (now used) (user ∷ []) p (rw e at u))
    | inr other ↦ rw (same q other) u
  ]

  before : (q p : ℕ) → Contains (now q) p → Contains (old q) p ⊎ ((p ≡ user) × Contains (take (k + 1) uses) q)
  before q p u = elim (s.only q p u) [ inl h ↦ inl h | inr h ↦ inr (h.0, longer q h.1) ]

  pub AddsUser-more : AddsUser old new (take (k + 1) uses) user
  AddsUser-more = record {
    kept = λ q p u. more q p (s.kept q p u);
    added = λ q c. elim (Contains-push_cases (take k uses) used q (rw split at c)) [
      | inl h ↦ more q user (s.added q h)
      | inr h ↦ rw (sym h, grown) (Contains-push (now used) user)
    ];
    only = λ q p u. elim (cases_eq q used) [
      | inl e ↦ elim (Contains-push_cases (now used) user p (rw (e, grown) at u)) [
        | inl j ↦ before q p (rw e j)
        | inr j ↦ inr (sym j, rw (split, e) (Contains-push (take k uses) used))
      ]
      | inr other ↦ before q p (rw (same q other) at u)
    ];
  }

-- the next node was added at all that it uses
pub IsConverseBelow-more : (g : List (List ℕ)) (users new : ℕ → List ℕ) (n : ℕ) → IsConverseBelow g users n → AddsUser users new (row g n) n → IsConverseBelow g new (n + 1)
IsConverseBelow-more g users new n s a = record {
  from_use = λ p q h u. elim (cases_lt p n) [
    | inl k ↦ a.kept q p (s.from_use p q k u)
    | inr k ↦ let e : p ≡ n = omega arith in rw e (a.added q (rw e at u))
  ];
  to_use = λ p q u. elim (a.only q p u) [ inl h ↦ s.to_use p q h | inr h ↦ rw h.0 h.1 ];
}

-- no node was added to empty rows
pub IsConverseBelow-none : (g : List (List ℕ)) (users : ℕ → List ℕ) → ((q : ℕ) → users q ≡ []) → IsConverseBelow g users 0
IsConverseBelow-none g users empty = record {
  from_use = λ p q h u. absurd (omega arith);
  to_use = λ p q u. let k : u.0 < length (users q) = u.1 in absurd (omega (arith, k, ap length (empty q)));
}

-- all nodes were added
pub IsConverse-from_below : (g rows : List (List ℕ)) (users : ℕ → List ℕ) (n : ℕ) → IsConverseBelow g users n → length g ≤ n → length rows ≡ length g → ((q : ℕ) → row rows q ≡ users q) → IsConverse g rows
IsConverse-from_below g rows users n s all size same = record {
  size = size;
  from_use = λ p q u.
      let P : List ℕ → Type 0 = λ us. Contains us p in
      subst P (sym (same q)) (s.from_use p q (omega (arith, user-within g p q u)) u);
  to_use = λ p q u.
      let P : List ℕ → Type 0 = λ us. Contains us q in
      s.to_use q p (subst P (same p) u);
}
