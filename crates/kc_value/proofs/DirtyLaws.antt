-- Where user values become others, a node that is not dirty keeps its value.
use Rattle.std.proofs.Common.{◌≡◌, ◌⊎◌, inl, inr, ℕ, zero, suc, ◌+◌, ◌<◌, ◌≤◌, Bool, true, false, true≢false, List, [], ◌∷◌, ◌++◌, Option, Some, is_some, length, take, get_or, refl, sym, ap, ◌∙◌, subst, ⊎_elim, arith}
use Rattle.std.specs.List.{Contains, slice_get}
use Rattle.std.proofs.lemmas.List.{take_more}
use Rattle.std.proofs.lemmas.List.Elements.{Contains-push_cases, Contains-append_cases, Contains-append_right, Contains-get_or}
use Rattle.std.proofs.lemmas.Option.{slice_get-get_or}
use Rattle.kc_tree.specs.declared.node.Node.{Node}
use Rattle.kc_outline.specs.TreeValue.{TreeValue}
use Rattle.kc_tree.specs.declared.cell.Cell.{Cell}
use Rattle.kc_tree.specs.Accepted.{IsAccepted}
use Rattle.kc_tree.specs.CellLaws.{CellLaws}
use Rattle.kc_tree.specs.Cells.{IsCellOf}
use Rattle.kc_tree.specs.Nodes.{IsNodeOf}
use Rattle.kc_tree.specs.Order.{IsOrder}
use Rattle.kc_tree.specs.Reached.{here, step}
use Rattle.kc_tree.specs.Uses.{Uses, used_nodes}
use Rattle.kc_value.specs.declared.value.Value.{Value}
use Rattle.kc_value.specs.Dirty.{is_changed, IsDirty}
use Rattle.kc_value.specs.DropWalk.{IsDropped}
use Rattle.kc_value.specs.Kept.{AreKept, IsHeld, IsKept, cell_worth}
use Rattle.kc_value.specs.Solution.{solution, IsOnlySolution}
use Rattle.kc_value.specs.UserValues.{UserValues}
use Rattle.kc_value.proofs.Agreement.{rule_agrees, rule_user}
use Rattle.kc_value.proofs.FillSteps.{node_or_condition}
use Rattle.kc_value.proofs.SolutionLaws.{one_solution, whole}
use Rattle.kc_value.proofs.SolvedLaws.{cell_same, reads_kept}

-- a test is passed or not
decided : (b : Bool) → (b ≡ true) ⊎ (b ≡ false)
decided true = inl refl
decided false = inr refl

uses_listed : (t : TreeValue) (n m : Node) → Contains (used_nodes t n) m → Uses t n m
unfolding Uses
uses_listed t n m c = c

listed_uses : (t : TreeValue) (n m : Node) → Uses t n m → Contains (used_nodes t n) m
unfolding Uses
listed_uses t n m c = c

module _ (t : TreeValue) (u w : UserValues) where
  abbrev IsClean : Node → Type 0
  IsClean n = solution t u n ≡ solution t w n

  -- all of some nodes are clean, or one of them is dirty
  all_clean : (ns : List Node) → ((m : Node) → Contains ns m → IsClean m ⊎ IsDirty t u w m)
      → ((m : Node) → Contains ns m → IsClean m) ⊎ ((m : Node) × Contains ns m × IsDirty t u w m)
  all_clean [] each = inl (λ m c. absurd (omega (arith, c.1)))
  all_clean (n ∷ ns) each =
      let first : Contains (n ∷ ns) n = (0, omega arith, refl) in
      let later : (m : Node) → Contains ns m → Contains (n ∷ ns) m = λ m c. Contains-append_right (n ∷ []) ns m c in
      ⊎_elim
      (λ own. ⊎_elim
      (λ rest. inl (λ m c. ⊎_elim
      (λ one. ⊎_elim (λ none. absurd (omega (arith, none.1))) (λ same. subst IsClean same own) (Contains-push_cases [] n m one))
      (rest m) (Contains-append_cases (n ∷ []) ns m c)))
      (λ found. inr (found.0, later found.0 found.1, found.2))
      (all_clean ns (λ m c. each m (later m c))))
      (λ dirty. inr (n, first, dirty))
      (each n first)

  module _ (accepted : IsAccepted t) where
    before : IsOnlySolution t u (solution t u)
    before = one_solution t u accepted

    after : IsOnlySolution t w (solution t w)
    after = one_solution t w accepted

    -- a node that does not change itself, and that uses clean nodes alone, is clean
    clean_step : (n : Node) → IsNodeOf t n → is_changed t u w n ≡ false → ((m : Node) → Uses t n m → IsClean m) → IsClean n
    clean_step n inside stays used =
        before.solves n inside
        ∙ rule_agrees t u (solution t u) (solution t w) n used
        ∙ rule_user t u w (solution t w) n stays
        ∙ sym (after.solves n inside)

    one_node : (n : Node) → IsNodeOf t n → ((m : Node) → Uses t n m → IsClean m ⊎ IsDirty t u w m) → IsClean n ⊎ IsDirty t u w n
    one_node n inside used =
        ⊎_elim
        (λ changes. inr (n, inside, changes, here))
        (λ stays. ⊎_elim
        (λ clean. inl (clean_step n inside stays (λ m uses. clean m (listed_uses t n m uses))))
        (λ found. inr (found.2.0, found.2.1, found.2.2, step (uses_listed t n found.0 found.1) found.2.3))
        (all_clean (used_nodes t n) (λ m c. used m (uses_listed t n m c))))
        (decided (is_changed t u w n))

    by_order : (order : List Node) → IsOrder t order → (i : ℕ) → i ≤ length order → (n : Node) → Contains (take i order) n → IsClean n ⊎ IsDirty t u w n
    by_order order ok zero within n c = absurd (omega (arith, c.1))
    by_order order ok (suc i) within n c =
        let inside : i < length order = omega arith in
        let one : i + 1 ≡ suc i = omega arith in
        let front = by_order order ok i (omega arith) in
        let more : take (suc i) order ≡ take i order ++ get_or order i n ∷ [] = ap (λ j. take j order) (sym one) ∙ take_more order i n inside in
        let in_more : Contains (take i order ++ get_or order i n ∷ []) n = subst (λ xs. Contains xs n) more c in
        ⊎_elim
        (λ earlier. front n earlier)
        (λ last.
        let at : slice_get order i ≡ Some n = slice_get-get_or order i n inside ∙ ap Some last in
        let node : IsNodeOf t n = ok.only n (subst (λ m. Contains order m) last (Contains-get_or order i n inside)) in
        one_node n node (λ m uses. front m (ok.after_used i n m at uses)))
        (Contains-push_cases (take i order) (get_or order i n) n in_more)

    -- the value of a node is the same before and afterwards, or the node is dirty
    pub clean_or_dirty : (n : Node) → IsNodeOf t n → (solution t u n ≡ solution t w n) ⊎ IsDirty t u w n
    clean_or_dirty n inside =
        let order = accepted.ordered.0 in
        let ok = accepted.ordered.1 in
        by_order order ok (length order) (omega arith) n (whole t w order ok n inside)

    module _ (laws : CellLaws t) (old new : List (Option Value)) (kept : AreKept t u old) (dropped : IsDropped t u w old new) where
      -- a node that is kept afterwards is not dirty
      kept_clean : (n : Node) → IsNodeOf t n → IsKept t new n → IsClean n
      kept_clean n inside is =
          ⊎_elim
          (λ clean. clean)
          (λ dirty. absurd (true≢false (sym is ∙ ap is_some (dropped.dropped n inside dirty))))
          (clean_or_dirty n inside)

      -- nor is one that a condition reads which is kept
      cell_clean : (c : Cell) → IsCellOf t c → IsHeld t new c → cell_worth t (solution t u) c ≡ cell_worth t (solution t w) c
      cell_clean c inside held =
          ⊎_elim
          (λ node. subst (λ x. cell_worth t (solution t u) x ≡ cell_worth t (solution t w) x) (sym node.1)
          (kept_clean node.0 (subst (IsCellOf t) node.1 inside) (subst (IsHeld t new) node.1 held)))
          (λ is. cell_same t laws (solution t u) (solution t w) c inside is (λ m reads. let there = reads_kept t laws new dropped.closed c m inside held reads in kept_clean m there.0 there.1))
          (node_or_condition c)

      -- what is kept after an edit is the solution's
      pub kept_after : AreKept t w new
      kept_after = record {
        closed = dropped.closed;
        right = λ c v inside given.
            ⊎_elim
            (λ same. kept.right c v inside (sym same ∙ given) ∙ cell_clean c inside (ap is_some given))
            (λ none. absurd (true≢false (sym (ap is_some (sym none ∙ given)))))
            (dropped.cells c inside);
      }
