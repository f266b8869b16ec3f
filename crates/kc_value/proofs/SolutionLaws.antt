-- There is one solution, since the nodes have an order in which each stands after all that it uses.
use Rattle.std.proofs.Common.{◌≡◌, ℕ, zero, suc, ◌+◌, ◌<◌, ◌≤◌, List, [], ◌∷◌, ◌++◌, Some, length, take, get_or, refl, sym, ap, ◌∙◌, subst, ⊎_elim, arith}
use Rattle.std.specs.List.{Contains, slice_get}
use Rattle.std.proofs.lemmas.List.{take_more, take_all}
use Rattle.std.proofs.lemmas.List.Elements.{Contains-push_cases, Contains-get_or}
use Rattle.std.proofs.lemmas.Option.{slice_get-get_or}
use Rattle.kc_tree.specs.declared.node.Node.{Node}
use Rattle.kc_outline.specs.TreeValue.{TreeValue}
use Rattle.kc_tree.specs.Nodes.{IsNodeOf, node_count}
use Rattle.kc_tree.specs.Order.{IsOrder}
use Rattle.kc_tree.specs.Accepted.{IsAccepted}
use Rattle.kc_tree.proofs.OrderLaws.{length_order}
use Rattle.kc_value.specs.Assignment.{Assignment}
use Rattle.kc_value.specs.UserValues.{UserValues}
use Rattle.kc_value.specs.Rule.{rule}
use Rattle.kc_value.specs.Solution.{applied, solution, IsSolution, IsOnlySolution}
use Rattle.kc_value.proofs.Agreement.{rule_agrees}

module _ (t : TreeValue) (u : UserValues) where
  applied-suc : (k : ℕ) (n : Node) → applied t u (suc k) n ≡ rule t u (applied t u k) n
  unfolding applied
  applied-suc k n = refl

  module _ (order : List Node) (ok : IsOrder t order) where
    -- the value of the node at a place, and of those before it, does not change once the rule was
    -- applied more often than that
    settled : (i : ℕ) → i ≤ length order → (n : Node) → Contains (take i order) n → (k : ℕ) → i ≤ k → applied t u k n ≡ applied t u (suc k) n
    settled zero within n c k h = absurd (omega (arith, c.1))
    settled (suc i) within n c zero h = absurd (omega arith)
    settled (suc i) within n c (suc k) h =
        let inside : i < length order = omega arith in
        let one : i + 1 ≡ suc i = omega arith in
        let front = settled i (omega arith) in
        let more : take (suc i) order ≡ take i order ++ get_or order i n ∷ [] = ap (λ j. take j order) (sym one) ∙ take_more order i n inside in
        let in_more : Contains (take i order ++ get_or order i n ∷ []) n = subst (λ xs. Contains xs n) more c in
        ⊎_elim
        (λ before. front n before (suc k) (omega arith))
        (λ here.
        let at : slice_get order i ≡ Some n = slice_get-get_or order i n inside ∙ ap Some here in
        applied-suc k n
        ∙ rule_agrees t u (applied t u k) (applied t u (suc k)) n (λ m uses. front m (ok.after_used i n m at uses) k (omega arith))
        ∙ sym (applied-suc (suc k) n))
        (Contains-push_cases (take i order) (get_or order i n) n in_more)

    -- what meets the equation gives each node the same value
    unique : (a b : Assignment) → IsSolution t u a → IsSolution t u b → (i : ℕ) → i ≤ length order → (n : Node) → Contains (take i order) n → a n ≡ b n
    unique a b sa sb zero within n c = absurd (omega (arith, c.1))
    unique a b sa sb (suc i) within n c =
        let inside : i < length order = omega arith in
        let one : i + 1 ≡ suc i = omega arith in
        let front = unique a b sa sb i (omega arith) in
        let more : take (suc i) order ≡ take i order ++ get_or order i n ∷ [] = ap (λ j. take j order) (sym one) ∙ take_more order i n inside in
        let in_more : Contains (take i order ++ get_or order i n ∷ []) n = subst (λ xs. Contains xs n) more c in
        ⊎_elim
        (λ before. front n before)
        (λ here.
        let at : slice_get order i ≡ Some n = slice_get-get_or order i n inside ∙ ap Some here in
        let node : IsNodeOf t n = ok.only n (subst (λ m. Contains order m) here (Contains-get_or order i n inside)) in
        sa n node
        ∙ rule_agrees t u a b n (λ m uses. front m (ok.after_used i n m at uses))
        ∙ sym (sb n node))
        (Contains-push_cases (take i order) (get_or order i n) n in_more)

    pub whole : (n : Node) → IsNodeOf t n → Contains (take (length order) order) n
    whole n h = subst (λ xs. Contains xs n) (sym (take_all (length order) order (omega arith))) (ok.all n h)

    solves : IsSolution t u (solution t u)
    unfolding solution
    solves n h =
        settled (length order) (omega arith) n (whole n h) (node_count t) (length_order t order ok)
        ∙ applied-suc (node_count t) n

    one_by_order : IsOnlySolution t u (solution t u)
    one_by_order = record {
      solves = solves;
      only = λ b sb n h. unique b (solution t u) sb solves (length order) (omega arith) n (whole n h);
    }

-- the solution of a tree that was read is the only one
pub one_solution : (t : TreeValue) (u : UserValues) → IsAccepted t → IsOnlySolution t u (solution t u)
one_solution t u accepted = one_by_order t u accepted.ordered.0 accepted.ordered.1
