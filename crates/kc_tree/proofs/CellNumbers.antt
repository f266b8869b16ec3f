-- The numbers of cells: `cell_number` and `cell_at` undo each other.
use Rattle.std.proofs.Common.{◌≡◌, ℕ, ◌+◌, ◌-◌, ◌*◌, ◌<◌, ◌≤◌, cond, length, sym, ap, subst, ◌∙◌, inl, inr, arith}
use Rattle.std.proofs.lemmas.Bool.{cases_lt, lt-ltb, le-ltb}
use Rattle.std.specs.Prelude.{nat_lt}
use Rattle.kc_outline.specs.TreeValue.{TreeValue}
use Rattle.kc_tree.specs.declared.cell.Cell.{Cell}
use Rattle.kc_tree.specs.declared.cell.Cell.TheVariants.{Node as OfNode, Definition, Depends, Visible}
use Rattle.kc_tree.specs.Nodes.{node_at, node_count}
use Rattle.kc_tree.specs.Cells.{IsCellOf, IsCondition, cell_at, cell_count, cell_number, condition_in}
use Rattle.kc_tree.proofs.NodeNumbers.{at_below, node_at-number_of, number_below, number_of-node_at}

-- ---- conditions
module _ (blocks k : ℕ) where
  in_depends : k < blocks → condition_in blocks k ≡ Depends (record { 0 = k })
  in_depends h = ap (λ b. cond b (Depends (record { 0 = k })) (cond (nat_lt k (2 * blocks)) (Visible (record { 0 = k - blocks })) (Definition (k - 2 * blocks)))) (lt-ltb k blocks h)

  past_depends : blocks ≤ k → condition_in blocks k ≡ cond (nat_lt k (2 * blocks)) (Visible (record { 0 = k - blocks })) (Definition (k - 2 * blocks))
  past_depends h = ap (λ b. cond b (Depends (record { 0 = k })) (cond (nat_lt k (2 * blocks)) (Visible (record { 0 = k - blocks })) (Definition (k - 2 * blocks)))) (le-ltb k blocks h)

  in_visible : blocks ≤ k → k < 2 * blocks → condition_in blocks k ≡ Visible (record { 0 = k - blocks })
  in_visible h l = past_depends h ∙ ap (λ b. cond b (Visible (record { 0 = k - blocks })) (Definition (k - 2 * blocks))) (lt-ltb k (2 * blocks) l)

  in_definition : 2 * blocks ≤ k → condition_in blocks k ≡ Definition (k - 2 * blocks)
  in_definition h = past_depends (omega arith) ∙ ap (λ b. cond b (Visible (record { 0 = k - blocks })) (Definition (k - 2 * blocks))) (le-ltb k (2 * blocks) h)

module _ (t : TreeValue) where
  pub at_node : (k : ℕ) → k < node_count t → cell_at t k ≡ OfNode (node_at t k)
  at_node k h = ap (λ b. cond b (OfNode (node_at t k)) (condition_in (length t.blocks) (k - node_count t))) (lt-ltb k (node_count t) h)

  at_condition : (k : ℕ) → node_count t ≤ k → cell_at t k ≡ condition_in (length t.blocks) (k - node_count t)
  at_condition k h = ap (λ b. cond b (OfNode (node_at t k)) (condition_in (length t.blocks) (k - node_count t))) (le-ltb k (node_count t) h)

  at_depends : (k : ℕ) → node_count t ≤ k → k - node_count t < length t.blocks → cell_at t k ≡ Depends (record { 0 = k - node_count t })
  at_depends k h l = at_condition k h ∙ in_depends (length t.blocks) (k - node_count t) l

  at_visible : (k : ℕ) → node_count t ≤ k → length t.blocks ≤ k - node_count t → k - node_count t < 2 * length t.blocks → cell_at t k ≡ Visible (record { 0 = k - node_count t - length t.blocks })
  at_visible k h i l = at_condition k h ∙ in_visible (length t.blocks) (k - node_count t) i l

  at_definition : (k : ℕ) → node_count t ≤ k → 2 * length t.blocks ≤ k - node_count t → cell_at t k ≡ Definition (k - node_count t - 2 * length t.blocks)
  at_definition k h i = at_condition k h ∙ in_definition (length t.blocks) (k - node_count t) i

  -- ---- numbers of cells
  pub cell_below : (c : Cell) → IsCellOf t c → cell_number t c < cell_count t
  cell_below (OfNode n) h = let small = number_below t n h in omega (arith, small)
  cell_below (Depends b) h = omega (arith, h)
  cell_below (Visible b) h = omega (arith, h)
  cell_below (Definition d) h = omega (arith, h)

  pub cell_same : (c : Cell) → IsCellOf t c → cell_at t (cell_number t c) ≡ c
  cell_same (OfNode n) h = at_node (cell_number t (OfNode n)) (number_below t n h) ∙ ap OfNode (node_at-number_of t n h)
  cell_same (Depends b) h =
      let k : ℕ = node_count t + b.0 in
      let left : k - node_count t ≡ b.0 = omega arith in
      at_depends k (omega arith) (omega (arith, left, h)) ∙ ap (λ (j : ℕ). Depends (record { 0 = j })) left
  cell_same (Visible b) h =
      let k : ℕ = node_count t + (length t.blocks + b.0) in
      let left : k - node_count t - length t.blocks ≡ b.0 = omega arith in
      at_visible k (omega arith) (omega arith) (omega (arith, h)) ∙ ap (λ (j : ℕ). Visible (record { 0 = j })) left
  cell_same (Definition d) h =
      let k : ℕ = node_count t + (2 * length t.blocks + d) in
      let left : k - node_count t - 2 * length t.blocks ≡ d = omega arith in
      at_definition k (omega arith) (omega arith) ∙ ap Definition left

  -- ---- cells of numbers
  -- what holds of the cell of a number holds by the kind of the number
  module _ (k : ℕ) (P : Cell → Type 0)
      (of_node : k < node_count t → P (OfNode (node_at t k)))
      (of_depends : node_count t ≤ k → k - node_count t < length t.blocks → P (Depends (record { 0 = k - node_count t })))
      (of_visible : node_count t ≤ k → length t.blocks ≤ k - node_count t → k - node_count t < 2 * length t.blocks → P (Visible (record { 0 = k - node_count t - length t.blocks })))
      (of_definition : node_count t ≤ k → 2 * length t.blocks ≤ k - node_count t → P (Definition (k - node_count t - 2 * length t.blocks))) where
    by_number : P (cell_at t k)
    by_number = elim (cases_lt k (node_count t)) [
      | inl h ↦ subst P (sym (at_node k h)) (of_node h)
      | inr h ↦ elim (cases_lt (k - node_count t) (length t.blocks)) [
        | inl l ↦ subst P (sym (at_depends k h l)) (of_depends h l)
        | inr i ↦ elim (cases_lt (k - node_count t) (2 * length t.blocks)) [
          | inl l ↦ subst P (sym (at_visible k h i l)) (of_visible h i l)
          | inr j ↦ subst P (sym (at_definition k h j)) (of_definition h j)
        ]
      ]
    ]

  pub cell_inside : (k : ℕ) → k < cell_count t → IsCellOf t (cell_at t k)
  cell_inside k below = by_number k (λ c. IsCellOf t c) (λ h. at_below t k h) (λ h l. l) (λ h i l. omega (arith, h, i, l)) (λ h i. omega (arith, h, i, below))

  pub number_at : (k : ℕ) → cell_number t (cell_at t k) ≡ k
  number_at k = by_number k (λ c. cell_number t c ≡ k) (λ h. number_of-node_at t k) (λ h l. omega (arith, h)) (λ h i l. omega (arith, h, i)) (λ h i. omega (arith, h, i))

  -- ---- conditions have the numbers from the count of nodes on
  pub condition_at : (k : ℕ) → node_count t ≤ k → IsCondition (cell_at t k)
  condition_at k above = by_number k IsCondition (λ h. absurd (omega (arith, h, above))) (λ h l. tt) (λ h i l. tt) (λ h i. tt)

  pub condition_above : (c : Cell) → IsCondition c → node_count t ≤ cell_number t c
  condition_above (OfNode n) is = absurd is
  condition_above (Depends b) is = omega arith
  condition_above (Visible b) is = omega arith
  condition_above (Definition d) is = omega arith
