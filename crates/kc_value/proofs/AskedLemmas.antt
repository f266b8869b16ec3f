-- Nodes that are asked for one after another, and a list by number that has their values.
use Rattle.std.proofs.Common.{◌≡◌, true, true≢false, is_some, ℕ, ◌+◌, ◌<◌, ◌≤◌, List, [], ◌∷◌, ◌++◌, Option, Some, None, Ok, Result, Vec, Global, length, take, drop, get_or, slice_set, get_or-set_same, get_or-set_other, take-append-drop, refl, sym, ap, ◌∙◌, subst, ⊎_elim, unwrap_or, arith}
use Rattle.std.specs.List.{Contains}
use Rattle.std.specs.Result.{IfOk}
use Rattle.std.specs.Vec.{vec_items}
use Rattle.std.proofs.lemmas.Bool.{cases_eq}
use Rattle.std.proofs.lemmas.List.{take_all, take_more}
use Rattle.std.proofs.lemmas.List.Elements.{Contains-append_left, Contains-get_or, Contains-push_cases}
use Rattle.std.proofs.lemmas.List.FromFn.{get_or-map-range_with_len, length-map-range_with_len}
use Rattle.kc_statement.specs.declared.tri.Tri.TheVariants.{No}
use Rattle.kc_outline.specs.TreeValue.{TreeValue}
use Rattle.kc_tree.specs.declared.cell.Cell.TheVariants.{Node as OfNode}
use Rattle.kc_tree.specs.declared.node.Node.{Node}
use Rattle.kc_tree.specs.Nodes.{AreNumbered, IsNodeOf, all_nodes, node_at, node_count, number_of}
use Rattle.kc_tree.specs.Reached.{Reached, step}
use Rattle.kc_tree.specs.Uses.{Uses}
use Rattle.kc_tree.proofs.NodeNumbers.{at_below}
use Rattle.kc_value.specs.declared.value.Value.{Value}
use Rattle.kc_value.specs.Assignment.{Assignment, assignment_of, value_at}
use Rattle.kc_value.specs.declared.value.Value.TheVariants.{Tri as Level}
use Rattle.kc_value.specs.Kept.{AreKept, Fills, IsKept, KeptValue}
use Rattle.kc_value.specs.Known.{KnownValue, given}
use Rattle.kc_value.specs.NodeLists.{AreNodesOf, AreValuesOf}
use Rattle.kc_value.specs.Solution.{AreSolved, solution}
use Rattle.kc_value.specs.UserValues.{UserValues}
use Rattle.kc_value.proofs.FillLaws.{kept_after}
use Rattle.kc_value.proofs.OrderSteps.{in_all}

-- where nothing was asked, nothing is reached
pub none_reached : (t : TreeValue) (nodes : List Node) (n : Node) → Reached t [] n → Reached t nodes n
none_reached t nodes n (m, asked, leads) = absurd (omega (arith, asked.1))

-- where no node is in the list, none has a value yet
pub none_copied : (t : TreeValue) (a : Assignment) (values : List (Option Value)) → AreValuesOf t a [] values
none_copied t a values n asked = absurd (omega (arith, asked.1))

module _ (t : TreeValue) (nodes : List Node) (i : ℕ) where
  -- the first nodes of a list are in it, and what is reached from them is reached from all
  among_all : (n : Node) → Contains (take i nodes) n → Contains nodes n
  among_all n first = subst (λ xs. Contains xs n) (take-append-drop i nodes) (Contains-append_left (take i nodes) (drop i nodes) n first)

  pub first_reached : (n : Node) → Reached t (take i nodes) n → Reached t nodes n
  first_reached n (m, asked, leads) = (m, among_all m asked, leads)

  module _ (within : i < length nodes) (d : Node) where
    -- and so with the next one
    next_among : (n : Node) → Contains (take i nodes ++ get_or nodes i d ∷ []) n → Contains nodes n
    next_among n c =
        ⊎_elim (among_all n) (λ same. subst (Contains nodes) same (Contains-get_or nodes i d within))
        (Contains-push_cases (take i nodes) (get_or nodes i d) n c)

    pub next_reached : (n : Node) → Reached t (take i nodes ++ get_or nodes i d ∷ []) n → Reached t nodes n
    next_reached n (m, asked, leads) = (m, next_among m asked, leads)

    pub next_inside : AreNodesOf t nodes → IsNodeOf t (get_or nodes i d)
    next_inside all = all (get_or nodes i d) (Contains-get_or nodes i d within)

    -- with the value of the next node, the first nodes and this one have theirs
    pub next_copied : (a : Assignment) (values : List (Option Value)) → AreNumbered t → AreNodesOf t nodes → number_of t (get_or nodes i d) < length values
        → AreValuesOf t a (take i nodes) values
        → AreValuesOf t a (take (i + 1) nodes) (slice_set values (number_of t (get_or nodes i d)) (Some (a (get_or nodes i d))))
    next_copied a values numbered all below copied n asked =
        let next = get_or nodes i d in
        let new = slice_set values (number_of t next) (Some (a next)) in
        let here : value_at t new next ≡ Some (a next) = get_or-set_same values (number_of t next) (Some (a next)) None below in
        let cases = Contains-push_cases (take i nodes) next n (subst (λ xs. Contains xs n) (take_more nodes i d within) asked) in
        ⊎_elim
        (λ first.
        ⊎_elim
        (λ (same : number_of t n ≡ number_of t next).
        subst (λ m. value_at t new m ≡ Some (a m)) (sym (numbered.alone n next (all n (among_all n first)) (next_inside all) same)) here)
        (λ other. get_or-set_other values (number_of t next) (number_of t n) (Some (a next)) None other ∙ copied n first)
        (cases_eq (number_of t n) (number_of t next)))
        (λ same. subst (λ m. value_at t new m ≡ Some (a m)) same here)
        cases

  -- after the last one all are asked and have values
  pub all_first : length nodes ≤ i → take i nodes ≡ nodes
  all_first past = take_all i nodes past

-- each node of the tree is among all nodes, and no other
pub all_inside : (t : TreeValue) → AreNodesOf t (all_nodes t)
all_inside t n (k, below, is) =
    let count = length-map-range_with_len (node_at t) 0 (node_count t) in
    let few : k < node_count t = omega (arith, below, count) in
    let at : node_at t k ≡ n = sym (get_or-map-range_with_len (node_at t) 0 (node_count t) k k n few (omega arith)) ∙ is in
    subst (IsNodeOf t) at (at_below t k few)

-- where a list has the solution's values of all nodes, they are solved
pub all_solved : (t : TreeValue) (u : UserValues) (values : List (Option Value)) → AreValuesOf t (solution t u) (all_nodes t) values → AreSolved t u values
all_solved t u values are n inside = ap (λ o. unwrap_or o (Level No)) (are n (in_all t n inside))

-- what a node uses, and what is reached from that, is reached from the node
pub used_reached : (t : TreeValue) (m : Node) (nodes : List Node) → ((n : Node) → Contains nodes n → Uses t m n) → (n : Node) → Reached t nodes n → Reached t (m ∷ []) n
used_reached t m nodes used n (q, asked, leads) = (m, (0, omega arith, refl), step (used q asked) leads)

-- a node that is kept has the solution's value in the list
pub kept_given : (t : TreeValue) (u : UserValues) (kept : List (Option Value)) → AreKept t u kept → (n : Node) → IsNodeOf t n → IsKept t kept n
    → value_at t kept n ≡ Some (solution t u n)
kept_given t u kept are n inside is = go (value_at t kept n) refl is
  where
    go : (o : Option Value) → value_at t kept n ≡ o → is_some o ≡ true → value_at t kept n ≡ Some (solution t u n)
    go None e some = absurd (true≢false (sym some))
    go (Some v) e some = e ∙ ap Some (are.right (OfNode n) v inside e)

-- the nodes that were asked for so far stay kept, and the next one is
pub next_kept : (t : TreeValue) (nodes : List Node) (i : ℕ) → i < length nodes → (d : Node) → AreNodesOf t nodes → (before after : KeptValue)
    → Fills t (get_or nodes i d ∷ []) before after → IsKept t after.values (get_or nodes i d)
    → ((n : Node) → Contains (take i nodes) n → IsKept t before.values n) → (n : Node) → Contains (take (i + 1) nodes) n → IsKept t after.values n
next_kept t nodes i within d all before after fills here done n asked =
    ⊎_elim
    (λ first. kept_after t t (get_or nodes i d ∷ []) before after n refl (all n (among_all t nodes i n first)) (done n first) fills)
    (λ same. subst (λ m. IsKept t after.values m) same here)
    (Contains-push_cases (take i nodes) (get_or nodes i d) n (subst (λ xs. Contains xs n) (take_more nodes i d within) asked))

-- what a list that was collected has
pub listed : {E : Type 0} (r : Result (Vec Node Global) E) (nodes : Vec Node Global) {xs : List Node} → r ≡ Ok nodes → IfOk r (λ w. vec_items w ≡ xs) → vec_items nodes ≡ xs
listed r nodes {xs} is gives = subst (λ x. IfOk x (λ w. vec_items w ≡ xs)) is gives

-- what rules read of the nodes that a node uses is the solution's, by other names of the tree and the list
pub known_right : (t : TreeValue) (u : UserValues) (k : KnownValue) (values : List (Option Value)) (m : Node) → k.tree ≡ t → k.values ≡ values
    → ((n : Node) → Uses t m n → assignment_of t values n ≡ solution t u n) → (n : Node) → Uses k.tree m n → given k n ≡ solution k.tree u n
known_right t u k values m tree same right =
    subst (λ (x : TreeValue). (n : Node) → Uses x m n → assignment_of x k.values n ≡ solution x u n) (sym tree)
    (subst (λ (vs : List (Option Value)). (n : Node) → Uses t m n → assignment_of t vs n ≡ solution t u n) (sym same) right)
