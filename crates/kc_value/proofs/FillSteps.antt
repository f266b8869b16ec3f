-- One more value that is kept.
use Rattle.std.proofs.Common.{◌≡◌, ℕ, suc, ◌-◌, ◌<◌, ◌≤◌, ◌⊎◌, true, false, List, Option, Some, None, is_some, inl, inr, length, get_or, slice_set, refl, sym, ap, ◌∙◌, subst, ⊎_elim, get_or-set_same, get_or-set_other, arith}
use Rattle.std.specs.List.{Contains}
use Rattle.std.proofs.lemmas.Bool.{cases_eq}
use Rattle.std.proofs.lemmas.List.{length-set}
use Rattle.kc_outline.specs.TreeValue.{TreeValue}
use Rattle.kc_tree.specs.declared.cell.Cell.{Cell}
use Rattle.kc_tree.specs.declared.cell.Cell.TheVariants.{Node as OfNode, Definition, Depends, Visible}
use Rattle.kc_tree.specs.declared.node.Node.{Node}
use Rattle.kc_tree.specs.Accepted.{IsAccepted}
use Rattle.kc_tree.specs.CellLaws.{CellLaws, Reads, itself, through}
use Rattle.kc_tree.specs.Cells.{IsCellOf, IsCondition, cell_at, cell_count, cell_number, read_cells}
use Rattle.kc_tree.specs.Nodes.{IsNodeOf, node_count, number_of}
use Rattle.kc_tree.specs.Reached.{Leads, Reached, here, step}
use Rattle.kc_tree.specs.Uses.{Uses}
use Rattle.kc_tree.proofs.NodeNumbers.{number_below}
use Rattle.kc_value.specs.declared.value.Value.{Value}
use Rattle.kc_value.specs.Assignment.{assignment_of, value_at}
use Rattle.kc_value.specs.Counting.{raised}
use Rattle.kc_value.specs.FillWalk.{HasValue, IsWanted, asked_for, read, cell_rule, counted_with}
use Rattle.kc_value.specs.Kept.{AreKept, Fills, IsHeld, IsKept, KeptValue, cell_value_at, cell_worth, kept_count}
use Rattle.kc_value.specs.UserValues.{UserValues}
use Rattle.kc_value.specs.Solution.{solution}
use Rattle.kc_value.proofs.Agreement.{rule_agrees}
use Rattle.kc_value.proofs.KeptCounts.{kept_count-condition, kept_count-node}
use Rattle.kc_value.proofs.SolutionLaws.{one_solution}
use Rattle.kc_value.proofs.SolvedLaws.{cell_same, node_right, reads_kept}

-- ---- values or none
pub is_none : {X : Type 0} (o : Option X) → is_some o ≡ false → o ≡ None
is_none None h = refl
is_none (Some x) h = cc

pub some_of : {X : Type 0} (o : Option X) → is_some o ≡ true → (x : X) × (o ≡ Some x)
some_of None h = cc
some_of (Some x) h = (x, refl)

-- ---- a cell is a node or a condition
pub node_or_condition : (c : Cell) → ((n : Node) × (c ≡ OfNode n)) ⊎ IsCondition c
node_or_condition (OfNode n) = inl (n, refl)
node_or_condition (Definition d) = inr tt
node_or_condition (Depends b) = inr tt
node_or_condition (Visible b) = inr tt

-- the numbers of conditions follow those of all nodes
pub condition_past : (t : TreeValue) (c : Cell) → IsCondition c → node_count t ≤ cell_number t c
condition_past t (OfNode n) never = absurd never
condition_past t (Definition d) is = omega arith
condition_past t (Depends b) is = omega arith
condition_past t (Visible b) is = omega arith

-- ---- the value of one more number
module _ (kept : List (Option Value)) (k : ℕ) (v : Value) (room : k < length kept) where
  abbrev added : List (Option Value)
  added = slice_set kept k (Some v)

  pub value_here : get_or added k None ≡ Some v
  value_here = get_or-set_same kept k (Some v) None room

  pub value_there : (j : ℕ) → (j ≡ k → ⊥) → get_or added j None ≡ get_or kept j None
  value_there j differs = get_or-set_other kept k j (Some v) None differs

  -- a number that had a value has one
  pub value_stays : (j : ℕ) → HasValue kept j → HasValue added j
  value_stays j h =
      ⊎_elim
      (λ e. ap (λ i. is_some (get_or added i None)) e ∙ ap is_some value_here)
      (λ differs. ap is_some (value_there j differs) ∙ h)
      (cases_eq j k)

  -- and one that has a value now had one, or is the number
  pub added_or_held : (j : ℕ) → HasValue added j → (j ≡ k) ⊎ HasValue kept j
  added_or_held j h = ⊎_elim (λ e. inl e) (λ differs. inr (ap is_some (sym (value_there j differs)) ∙ h)) (cases_eq j k)

-- ---- the value of one more cell is right
module _ (t : TreeValue) (laws : CellLaws t) where
  -- the cell of a number
  pub cell_of : (k : ℕ) (c : Cell) → IsCellOf t c → cell_number t c ≡ k → c ≡ cell_at t k
  cell_of k c inside e = sym (laws.same c inside) ∙ ap (cell_at t) e

  module _ (u : UserValues) (kept : List (Option Value)) (accepted : IsAccepted t) (are : AreKept t u kept)
      (c : Cell) (at : IsCellOf t c) (ready : (e : Cell) → Contains (read_cells t c) e → IsHeld t kept e) where
    -- what the cell reads, itself or by conditions, is kept
    all_read : (m : Node) → Reads t c m → IsNodeOf t m × IsKept t kept m
    all_read m (itself listed) = (laws.within c (OfNode m) at listed, ready (OfNode m) listed)
    all_read m (through {e = e} is listed rest) = reads_kept t laws kept are.closed e m (laws.within c e at listed) (ready e listed) rest

    all_right : (m : Node) → Reads t c m → assignment_of t kept m ≡ solution t u m
    all_right m reads = let there = all_read m reads in node_right t laws u kept are m there.0 there.1

  module _ (u : UserValues) (kept : List (Option Value)) (accepted : IsAccepted t) (are : AreKept t u kept) where
    given_right : (c : Cell) → IsCellOf t c → ((e : Cell) → Contains (read_cells t c) e → IsHeld t kept e) → cell_rule t u (assignment_of t kept) c ≡ cell_worth t (solution t u) c
    given_right (OfNode n) at ready =
        rule_agrees t u (assignment_of t kept) (solution t u) n (λ m uses. all_right u kept accepted are (OfNode n) at ready m ((laws.uses n m at).0 uses))
        ∙ sym ((one_solution t u accepted).solves n at)
    given_right (Definition d) at ready = cell_same t laws (assignment_of t kept) (solution t u) (Definition d) at tt (all_right u kept accepted are (Definition d) at ready)
    given_right (Depends b) at ready = cell_same t laws (assignment_of t kept) (solution t u) (Depends b) at tt (all_right u kept accepted are (Depends b) at ready)
    given_right (Visible b) at ready = cell_same t laws (assignment_of t kept) (solution t u) (Visible b) at tt (all_right u kept accepted are (Visible b) at ready)

    module _ (k : ℕ) (below : k < cell_count t) (ready : (e : Cell) → Contains (read_cells t (cell_at t k)) e → IsHeld t kept e) where
      abbrev given : Value
      given = cell_rule t u (assignment_of t kept) (cell_at t k)

      few : k < length kept
      few = omega (arith, below, are.closed.whole)

      one_right : (c : Cell) (v : Value) → IsCellOf t c → cell_value_at t (slice_set kept k (Some given)) c ≡ Some v → v ≡ cell_worth t (solution t u) c
      one_right c v inside is =
          ⊎_elim
          (λ e.
          let here : get_or (slice_set kept k (Some given)) (cell_number t c) None ≡ Some given = ap (λ j. get_or (slice_set kept k (Some given)) j None) e ∙ value_here kept k given few in
          let one : v ≡ given = cc in
          one ∙ given_right (cell_at t k) (laws.inside k below) ready ∙ ap (cell_worth t (solution t u)) (sym (cell_of k c inside e)))
          (λ differs. are.right c v inside (sym (value_there kept k given few (cell_number t c) differs) ∙ is))
          (cases_eq (cell_number t c) k)

      pub one_more_right : AreKept t u (slice_set kept k (Some given))
      one_more_right = record {
        closed = record {
          whole = length-set kept k (Some given) ∙ are.closed.whole;
          closed = λ c e inside h listed.
              value_stays kept k given few (cell_number t e)
              (⊎_elim
              (λ same. ready e (subst (λ x. Contains (read_cells t x) e) (cell_of k c inside same) listed))
              (λ was. are.closed.closed c e inside was listed)
              (added_or_held kept k given few (cell_number t c) h));
        };
        right = one_right;
      }

-- ---- what a fill added
pub nothing_added : (t : TreeValue) (asked : List Node) (kept : KeptValue) → Fills t asked kept kept
nothing_added t asked kept = record {
  adds = record { each = λ n inside. inl refl; more = omega arith };
  counted = omega arith;
}

raised_again : (e f g a b c : ℕ) → f ≡ raised e (b - a) → g ≡ raised f 1 → a ≤ b → c ≡ suc b → g ≡ raised e (c - a)
raised_again e f g a b c first second le more = omega arith

-- the evaluation of a condition is not counted
condition_uncounted : (c : Cell) (count : ℕ) → IsCondition c → counted_with c count ≡ count
condition_uncounted (OfNode n) count never = absurd never
condition_uncounted (Definition d) count is = refl
condition_uncounted (Depends b) count is = refl
condition_uncounted (Visible b) count is = refl

module _ (t : TreeValue) (laws : CellLaws t) (asked : List Node) (first before after : KeptValue) (k : ℕ) (v : Value) (below : k < cell_count t) (whole : length before.values ≡ cell_count t)
    (reached : (n : Node) → cell_at t k ≡ OfNode n → Reached t asked n) (missing : get_or before.values k None ≡ None) (fills : Fills t asked first before)
    (values : after.values ≡ slice_set before.values k (Some v)) (evals : after.evals ≡ counted_with (cell_at t k) before.evals) where
  abbrev filled : List (Option Value)
  filled = slice_set before.values k (Some v)

  long : k < length before.values
  long = omega (arith, below, whole)

  abbrev Status : List (Option Value) → Node → Type 0
  Status values n = (value_at t values n ≡ value_at t first.values n) ⊎ ((value_at t first.values n ≡ None) × IsKept t values n × Reached t asked n)

  each : (n : Node) → IsNodeOf t n → Status filled n
  each n inside =
      ⊎_elim
      (λ e.
      let none : value_at t before.values n ≡ None = ap (λ j. get_or before.values j None) e ∙ missing in
      let here : IsKept t filled n = ap (λ j. is_some (get_or filled j None)) e ∙ ap is_some (value_here before.values k v long) in
      let was : value_at t first.values n ≡ None = ⊎_elim (λ stays. sym stays ∙ none) (λ (was, kept, by). was) (fills.adds.each n inside) in
      inr (was, here, reached n (sym (cell_of t laws k (OfNode n) inside e))))
      (λ differs.
      ⊎_elim
      (λ stays. inl (value_there before.values k v long (number_of t n) differs ∙ stays))
      (λ (was, kept, by). inr (was, value_stays before.values k v long (number_of t n) kept, by))
      (fills.adds.each n inside))
      (cases_eq (number_of t n) k)

  counts : (b : ((n : Node) × (cell_at t k ≡ OfNode n)) ⊎ IsCondition (cell_at t k)) →
      (kept_count t before.values ≤ kept_count t after.values) × (after.evals ≡ raised first.evals (kept_count t after.values - kept_count t first.values))
  counts (inl node) =
      let n : Node = node.0 in
      let inside : IsNodeOf t n = subst (IsCellOf t) node.1 (laws.inside k below) in
      let number : number_of t n ≡ k = ap (cell_number t) (sym node.1) ∙ laws.at k below in
      let few : k < node_count t = omega (arith, number, number_below t n inside) in
      let many : node_count t ≤ length before.values = omega (arith, whole) in
      let more : kept_count t after.values ≡ suc (kept_count t before.values) = ap (kept_count t) values ∙ kept_count-node t before.values k v few many missing in
      let once : after.evals ≡ raised before.evals 1 = evals ∙ ap (λ c. counted_with c before.evals) node.1 in
      (omega (arith, more), raised_again first.evals before.evals after.evals (kept_count t first.values) (kept_count t before.values) (kept_count t after.values) fills.counted once fills.adds.more more)
  counts (inr is) =
      let past : node_count t ≤ k = subst (λ j. node_count t ≤ j) (laws.at k below) (condition_past t (cell_at t k) is) in
      let same : kept_count t after.values ≡ kept_count t before.values = ap (kept_count t) values ∙ kept_count-condition t before.values k v past in
      (omega (arith, same), evals ∙ condition_uncounted (cell_at t k) before.evals is ∙ fills.counted ∙ ap (λ j. raised first.evals (j - kept_count t first.values)) (sym same))

  pub one_more_filled : Fills t asked first after
  one_more_filled =
      let counted = counts (node_or_condition (cell_at t k)) in
      let less : kept_count t first.values ≤ kept_count t before.values = fills.adds.more in
      record {
        adds = record {
          each = λ n inside. subst (λ vs. Status vs n) (sym values) (each n inside);
          more = omega (arith, counted.0, less);
        };
        counted = counted.1;
      }

-- ---- cells that are wanted
-- a walk goes one step further
leads_further : (t : TreeValue) (n m k : Node) → Leads t n m → Uses t m k → Leads t n k
leads_further t n m k here uses = step uses here
leads_further t n m k (step first rest) uses = step first (leads_further t _ m k rest uses)

module _ (t : TreeValue) (laws : CellLaws t) (asked : List Node) (inside : (n : Node) → Contains asked n → IsNodeOf t n) where
  pub wanted_inside : (c : Cell) → IsWanted t asked c → IsCellOf t c
  wanted_inside c (asked_for {n = n} listed) = inside n listed
  wanted_inside c (read {c = d} wanted listed) = laws.within d c (wanted_inside d wanted) listed

  reached_further : (n m : Node) → IsNodeOf t n → Reached t asked n → Reads t (OfNode n) m → Reached t asked m
  reached_further n m at by reads = (by.0, by.1, leads_further t by.0 n m by.2 ((laws.uses n m at).1 reads))

  -- a node that is wanted is reached, and so are those that a wanted cell reads
  reached_or_read : (c : Cell) → IsWanted t asked c → ((n : Node) → c ≡ OfNode n → Reached t asked n) × ((m : Node) → Reads t c m → Reached t asked m)
  reached_or_read c (asked_for {n = n} listed) =
      let own : Reached t asked n = (n, listed, here) in
      ((λ k e. subst (Reached t asked) (of_same n k e) own), λ m reads. reached_further n m (inside n listed) own reads)
    where
      node_in : Cell → Node → Node
      node_in (OfNode a) d = a
      node_in (Definition a) d = d
      node_in (Depends a) d = d
      node_in (Visible a) d = d

      of_same : (a b : Node) → OfNode a ≡ OfNode b → a ≡ b
      of_same a b e = ap (λ x. node_in x b) e
  reached_or_read c (read {c = d} wanted listed) =
      let before = reached_or_read d wanted in
      let own : (n : Node) → c ≡ OfNode n → Reached t asked n = λ n e. before.1 n (itself (subst (Contains (read_cells t d)) e listed)) in (
        own,
        λ m reads.
            ⊎_elim
            (λ node. reached_further node.0 m (subst (IsCellOf t) node.1 (wanted_inside c (read wanted listed))) (own node.0 node.1) (subst (λ x. Reads t x m) node.1 reads))
            (λ is. before.1 m (through is listed reads))
            (node_or_condition c),
      )

  pub wanted_reached : (c : Cell) → IsWanted t asked c → (n : Node) → c ≡ OfNode n → Reached t asked n
  wanted_reached c wanted = (reached_or_read c wanted).0
