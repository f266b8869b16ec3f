-- What follows from an order of the nodes.
use Rattle.std.proofs.Common.{inl, inr, suc, [], ◌∷◌, ◌≡◌, ℕ, ◌<◌, ◌≤◌, Bool, true, false, List, Some, length, get_or, map, eqb, refl, sym, ap, ◌∙◌, subst, arith}
use Rattle.std.specs.List.{Contains, list_any}
use Rattle.std.proofs.lemmas.Bool.{or_cases}
use Rattle.std.proofs.lemmas.List.{get_or-map, length-map}
use Rattle.std.proofs.lemmas.List.Elements.{Contains-get_or}
use Rattle.std.proofs.lemmas.Map.Keys.{IsDistinct-from_apart}
use Rattle.std.proofs.lemmas.Map.Steps.{length-le_from_distinct_below}
use Rattle.std.proofs.lemmas.Option.{slice_get-get_or}
use borrow.Author.Tests.{eqb-true}
use Rattle.kc_tree.specs.declared.node.Node.{Node}
use Rattle.kc_tree.specs.declared.node.Node.TheVariants.{Vis, Val, Mode, Sel}
use Rattle.kc_outline.specs.TreeValue.{TreeValue}
use Rattle.kc_tree.specs.Nodes.{IsNodeOf, node_count, number_of}
use Rattle.kc_tree.specs.Order.{IsOrder}
use Rattle.kc_tree.proofs.NodeNumbers.{same_node}

-- the number of a node of the tree
pub number_of-below : (t : TreeValue) (n : Node) → IsNodeOf t n → number_of t n < node_count t
number_of-below t (Vis s) h = omega arith
number_of-below t (Val s) h = omega arith
number_of-below t (Mode c) h = omega arith
number_of-below t (Sel c) h = omega arith

-- a number that one of a list equals is in the list
equal_contained : (ks : List ℕ) (q : ℕ) → list_any (eqb q) ks ≡ true → Contains ks q
equal_contained [] q h = cc
equal_contained (k ∷ ks) q h = elim (or_cases (eqb q k) (list_any (eqb q) ks) h) [
  | inl e ↦ (0, omega arith, sym (eqb-true q k e))
  | inr rest ↦ let r = equal_contained ks q rest in (suc r.0, omega (arith, r.1), r.2)
]

module _ (t : TreeValue) (order : List Node) (ok : IsOrder t order) where
  abbrev numbers : List ℕ
  numbers = map (number_of t) order

  number_at : (i : ℕ) (d : ℕ) (n : Node) → i < length order → get_or numbers i d ≡ number_of t (get_or order i n)
  number_at i d n h = get_or-map (number_of t) order i n d h

  -- no two places of the order have one number
  apart : (i j : ℕ) (d : ℕ) → i < j → j < length numbers → eqb (get_or numbers i d) (get_or numbers j d) ≡ false
  apart i j d below within = go (eqb (get_or numbers i d) (get_or numbers j d)) refl
    where
      go : (b : Bool) → eqb (get_or numbers i d) (get_or numbers j d) ≡ b → b ≡ false
      go false e = refl
      go true e =
          let n : Node = Vis (record { 0 = 0 }) in
          let long : length numbers ≡ length order = length-map order (number_of t) in
          let second : j < length order = omega (arith, long, within) in
          let first : i < length order = omega arith in
          let same : number_of t (get_or order i n) ≡ number_of t (get_or order j n) = sym (number_at i d n first) ∙ eqb-true _ _ e ∙ number_at j d n second in
          let one = same_node t (get_or order i n) (get_or order j n) (ok.only _ (Contains-get_or order i n first)) (ok.only _ (Contains-get_or order j n second)) same in
          let k = ok.once i j (get_or order j n) (slice_get-get_or order i n first ∙ ap Some one) (slice_get-get_or order j n second) in
          absurd (omega (arith, k))

  -- the order has no more places than there are nodes
  pub length_order : length order ≤ node_count t
  length_order =
      let long : length numbers ≡ length order = length-map order (number_of t) in
      let bounded : length numbers ≤ node_count t = length-le_from_distinct_below numbers (node_count t) (IsDistinct-from_apart eqb numbers apart) below in
      omega (arith, long, bounded)
    where
      below : (q : ℕ) → list_any (eqb q) numbers ≡ true → q < node_count t
      below q h =
          let n : Node = Vis (record { 0 = 0 }) in
          let c = equal_contained numbers q h in
          let long : length numbers ≡ length order = length-map order (number_of t) in
          let place : c.0 < length order = omega (arith, long, c.1) in
          let is : number_of t (get_or order c.0 n) ≡ q = sym (number_at c.0 q n place) ∙ c.2 in
          subst (λ k. k < node_count t) is (number_of-below t (get_or order c.0 n) (ok.only _ (Contains-get_or order c.0 n place)))
