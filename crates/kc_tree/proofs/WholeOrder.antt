-- An order of a table of cells, without its conditions, is one of the whole rows of its nodes.
use Rattle.std.proofs.Common.{◌≡◌, true, ℕ, zero, suc, ◌+◌, ◌-◌, ◌<◌, ◌≤◌, List, [], length, get_or, filter, inl, inr, refl, sym, ap, subst, ◌∙◌, arith}
use Rattle.std.proofs.lemmas.Bool.{cases_lt, lt-ltb, ltb-true}
use Rattle.std.proofs.lemmas.List.{get_or_default, get_or_past}
use Rattle.kc_graph.specs.Graph.{Uses, HasNoLoop, IsLoop, IsOrder}
use Rattle.kc_tree.specs.CellRows.{AreChains}
use Rattle.kc_tree.specs.WholeRows.{Holds, is_node, whole_rows}
use Rattle.kc_tree.specs.WholeRows.Holds.{itself, through}
use Rattle.kc_tree.proofs.FilterPlaces.{kept_at, place, place-kept, place_le, stood_at, Contains-filter}
use Rattle.kc_tree.proofs.WholeRowLaws.{held_within, holds_from_use, length-whole_rows}

-- ---- a graph with an order has no loop
-- each place of a loop has a place whose node its node uses
next_place : (g : List (List ℕ)) (nodes : List ℕ) (i : ℕ) → IsLoop g nodes → i < length nodes → (j : ℕ) × (j < length nodes) × Uses g (get_or nodes i 0) (get_or nodes j 0)
next_place g nodes i loop inside =
    elim (cases_lt (i + 1) (length nodes)) [
      | inl h ↦ (i + 1, h, loop.next i h)
      | inr h ↦ let e : length nodes - 1 ≡ i = omega arith in (0, loop.some, rw e at loop.last)
    ]

-- no node of a loop is in the order at a place below a bound, whatever the bound
none_below : (g : List (List ℕ)) (order nodes : List ℕ) → IsOrder g order → IsLoop g nodes → (bound i j : ℕ) → i < length nodes → j < length order → get_or order j 0 ≡ get_or nodes i 0 → j < bound → ⊥
none_below g order nodes is_order loop zero i j inside placed e h = omega arith
none_below g order nodes is_order loop (suc bound) i j inside placed e h =
    let n = next_place g nodes i loop inside in
    let u : Uses g (get_or order j 0) (get_or nodes n.0 0) = rw e n.2 in
    let before = is_order.after j (get_or nodes n.0 0) placed u in
    none_below g order nodes is_order loop bound n.0 before.0 n.1 (omega (arith, before.1)) before.2 (omega (arith, before.1))

no_loop : (g : List (List ℕ)) (order : List ℕ) → IsOrder g order → HasNoLoop g
no_loop g order is_order nodes loop =
    let n = next_place g nodes 0 loop loop.some in
    let user : get_or nodes 0 0 < length g = elim (cases_lt (get_or nodes 0 0) (length g)) [
      | inl h ↦ h
      | inr h ↦ let e = get_or_past g (get_or nodes 0 0) [] h in let k : n.2.0 < length (get_or g (get_or nodes 0 0) []) = n.2.1 in absurd (omega (arith, rw e at k))
    ] in
    let placed = is_order.complete (get_or nodes 0 0) user in
    none_below g order nodes is_order loop (placed.0 + 1) 0 placed.0 loop.some placed.1 (get_or_default order placed.0 _ _ placed.1 ∙ placed.2) (omega arith)

-- ---- without conditions
module _ (n : ℕ) (g : List (List ℕ)) (order : List ℕ) (is_order : IsOrder g order) (chains : AreChains n g) (few : n ≤ length g) where
  -- a node that comes before another one in the order of cells does so in the order of nodes
  kept_before : (i j q : ℕ) → i < length order → j < i → get_or order j 0 ≡ q → q < n → (k : ℕ) × (k < place (is_node n) order i) × (get_or (filter (is_node n) order) k 0 ≡ q)
  kept_before i j q inside before is below =
      let here : j < length order = omega arith in
      let node : is_node n (get_or order j 0) ≡ true = ap (is_node n) is ∙ lt-ltb q n below in
      let grows = place-kept (is_node n) order j 0 here node in
      let later = place_le (is_node n) order (j + 1) i (omega arith) in
      (place (is_node n) order j, omega arith, kept_at (is_node n) order j 0 here node ∙ is)

  -- what a cell of the order holds comes before it
  held_earlier : (p q : ℕ) → Holds n g p q → (i : ℕ) → i < length order → get_or order i 0 ≡ p → (j : ℕ) × (j < i) × (get_or order j 0 ≡ q)
  held_earlier p q (itself below u) i inside is = is_order.after i q inside (subst (λ r. Uses g r q) (sym is) u)
  held_earlier p q (through {s = s} above u rest) i inside is =
      let first = is_order.after i s inside (subst (λ r. Uses g r s) (sym is) u) in
      let earlier = held_earlier s q rest first.0 (omega (arith, first.1, inside)) first.2 in
      (earlier.0, omega (arith, first.1, earlier.1), earlier.2)

  pub IsOrder-whole_rows : IsOrder (whole_rows n g) (filter (is_node n) order)
  IsOrder-whole_rows =
      let size = length-whole_rows n g chains few in
      record {
        within = λ i h.
            let s = stood_at (is_node n) order i 0 h in
            omega (arith, size, s.same, ltb-true (get_or order s.at 0) n s.passes);
        complete = λ p h.
            let below : p < n = omega arith in
            Contains-filter (is_node n) order p (is_order.complete p (omega (arith, few))) (lt-ltb p n below);
        once = λ i j h k e.
            let s = stood_at (is_node n) order i 0 h in
            let t = stood_at (is_node n) order j 0 k in
            let same : s.at ≡ t.at = is_order.once s.at t.at s.inside t.inside (s.same ∙ e ∙ sym t.same) in
            sym s.placed ∙ ap (place (is_node n) order) same ∙ t.placed;
        after = λ i q h u.
            let s = stood_at (is_node n) order i 0 h in
            let P : ℕ → Type 0 = λ p. Uses (whole_rows n g) p q in
            let held = holds_from_use n g chains (get_or order s.at 0) q few (subst P (sym s.same) u) in
            let earlier = held_earlier (get_or order s.at 0) q held.1 s.at s.inside refl in
            let before = kept_before s.at earlier.0 q s.inside earlier.1 earlier.2 (held_within n g chains held.1) in
            (before.0, omega (arith, before.1, s.placed), before.2);
      }

  pub HasNoLoop-whole_rows : HasNoLoop (whole_rows n g)
  HasNoLoop-whole_rows = no_loop (whole_rows n g) (filter (is_node n) order) IsOrder-whole_rows
