-- A pass over the nodes of some numbers.
use Rattle.std.proofs.Common.{◌≡◌, ℕ, ◌+◌, ◌-◌, ◌<◌, ◌≤◌, List, [], ◌∷◌, Option, map, length, refl, sym, ◌∙◌, subst, ⊎_elim, arith}
use Rattle.std.specs.List.{Contains, range_with_len}
use Rattle.std.proofs.lemmas.Bool.{cases_eq}
use Rattle.std.proofs.lemmas.List.Elements.{Contains-push_cases}
use Rattle.std.proofs.lemmas.List.FromFn.{get_or-range_with_len, length-range_with_len}
use Rattle.kc_outline.specs.TreeValue.{TreeValue}
use Rattle.kc_tree.specs.declared.node.Node.{Node}
use Rattle.kc_tree.specs.Nodes.{IsNodeOf, node_at, node_count, number_of}
use Rattle.kc_tree.proofs.NodeNumbers.{Contains-at, Contains-from_at, at_below, node_in-number_in, node_at-number_of, number_of-node_at}
use Rattle.kc_value.specs.declared.value.Value.{Value}
use Rattle.kc_value.specs.Kept.{KeptValue, IsKept, Fills}
use Rattle.kc_value.proofs.FillLaws.{fills_again, fills_nothing, fills_wider, kept_after}

-- the nodes of so many numbers, from one on
abbrev pub numbered : TreeValue → ℕ → ℕ → List Node
numbered t first count = map (node_at t) (range_with_len first count)

-- the nodes of the numbers from one up to another are kept
abbrev pub AreDone : TreeValue → ℕ → ℕ → List (Option Value) → Type 0
AreDone t first k kept = (n : Node) → IsNodeOf t n → first ≤ number_of t n → number_of t n < k → IsKept t kept n

module _ (t : TreeValue) (first count : ℕ) (few : first + count ≤ node_count t) where
  in_numbered : (k : ℕ) → first ≤ k → k < first + count → Contains (numbered t first count) (node_at t k)
  in_numbered k from below =
      let n : Node = node_at t k in
      let inside : IsNodeOf t n = at_below t k (omega (arith, below, few)) in
      let within : k - first < count = omega (arith, from, below) in
      let here : Contains (range_with_len first count) k =
      (k - first, omega (arith, within, length-range_with_len first count), get_or-range_with_len first count (k - first) k within ∙ omega (arith, from)) in
      Contains-at (length t.symbols) (range_with_len first count) n (node_in-number_in t n inside) (subst (λ j. Contains (range_with_len first count) j) (sym (number_of-node_at t k)) here)

  from_numbered : (n : Node) → Contains (numbered t first count) n → IsNodeOf t n × (first ≤ number_of t n) × (number_of t n < first + count)
  from_numbered n h =
      let r = Contains-from_at (length t.symbols) (range_with_len first count) n h in
      let within : r.1.0 < count = omega (arith, r.1.1, length-range_with_len first count) in
      let is : first + r.1.0 ≡ number_of t n = sym (get_or-range_with_len first count r.1.0 (number_of t n) within) ∙ r.1.2 in
      let below : number_of t n < first + count = omega (arith, within, is) in
      (subst (IsNodeOf t) r.0 (at_below t (number_of t n) (omega (arith, below, few))), omega (arith, is), below)

  pub numbers_begun : (kept : KeptValue) → Fills t (numbered t first count) kept kept
  numbers_begun kept = fills_wider t [] (numbered t first count) kept kept (λ n h. absurd (omega (arith, h.1.1))) (fills_nothing t kept)

  pub none_done : (kept : List (Option Value)) → AreDone t first first kept
  none_done kept n inside from below = absurd (omega (arith, from, below))

  module _ (k : ℕ) (from : first ≤ k) (below : k < first + count) (start before after : KeptValue) (fills : Fills t (node_at t k ∷ []) before after) where
    -- the fill of one more node
    pub number_filled : Fills t (numbered t first count) start before → Fills t (numbered t first count) start after
    number_filled f =
        fills_again t t (numbered t first count) (node_at t k ∷ []) start before after refl
        (λ n c. ⊎_elim (λ none. absurd (omega (arith, none.1))) (λ same. subst (λ m. Contains (numbered t first count) m) same (in_numbered k from below)) (Contains-push_cases [] (node_at t k) n c))
        f fills

    pub number_done : AreDone t first k before.values → IsKept t after.values (node_at t k) → AreDone t first (k + 1) after.values
    number_done done here n inside from_n below_n =
        ⊎_elim
        (λ (same : number_of t n ≡ k). subst (λ m. IsKept t after.values m) (subst (λ j. node_at t j ≡ n) same (node_at-number_of t n inside)) here)
        (λ other. kept_after t t (node_at t k ∷ []) before after n refl inside (done n inside from_n (omega (arith, below_n, other))) fills)
        (cases_eq (number_of t n) k)

  -- all were met
  pub numbers_done : (k : ℕ) (kept : List (Option Value)) → first + count ≤ k → AreDone t first k kept → (n : Node) → Contains (numbered t first count) n → IsKept t kept n
  numbers_done k kept past done n c =
      let r = from_numbered n c in
      done n r.0 r.1 (omega (arith, r.2, past))
