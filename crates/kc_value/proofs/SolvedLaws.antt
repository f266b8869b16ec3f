-- What is kept of a tree: the values of nodes are the solution's, and so are those that they
-- are computed from; and conditions are what the nodes give them.
use Rattle.std.proofs.Common.{◌≡◌, true, true≢false, List, Option, Some, None, unwrap_or, is_some, refl, sym, ap, ◌∙◌}
use Rattle.std.specs.Prelude.{Contains}
use Rattle.kc_statement.specs.declared.tri.Tri.TheVariants.{No}
use Rattle.kc_outline.specs.TreeValue.{TreeValue}
use Rattle.kc_tree.specs.declared.node.Node.{Node}
use Rattle.kc_tree.specs.declared.cell.Cell.{Cell}
use Rattle.kc_tree.specs.declared.cell.Cell.TheVariants.{Node as OfNode, Definition, Depends, Visible}
use Rattle.kc_tree.specs.Accepted.{IsAccepted}
use Rattle.kc_tree.specs.CellLaws.{CellLaws, Reads, itself, through}
use Rattle.kc_tree.specs.Cells.{IsCellOf, IsCondition, condition_of}
use Rattle.kc_tree.specs.ConditionTable.{Condition}
use Rattle.kc_tree.specs.Nodes.{IsNodeOf}
use Rattle.kc_tree.specs.Uses.{Uses, condition_nodes}
use Rattle.kc_value.specs.declared.value.Value.{Value}
use Rattle.kc_value.specs.declared.value.Value.TheVariants.{Tri as Level}
use Rattle.kc_value.specs.Assignment.{Assignment, assignment_of, value_at}
use Rattle.kc_value.specs.Conditions.{condition_value}
use Rattle.kc_value.specs.Kept.{AreKept, IsClosed, IsHeld, IsKept, cell_worth}
use Rattle.kc_value.specs.Known.{AreRight}
use Rattle.kc_value.specs.Solution.{solution, AreSolved}
use Rattle.kc_value.specs.Solved.{IsSolved}
use Rattle.kc_value.specs.UserValues.{UserValues}
use Rattle.kc_value.proofs.Agreement.{Agree-from_contains, condition_agrees}

-- a condition is worth the same where the nodes that it reads have the same values
pub condition_same : (t : TreeValue) (a b : Assignment) (c : Condition) → ((m : Node) → Contains (condition_nodes t c) m → a m ≡ b m)
    → condition_value t a c ≡ condition_value t b c
condition_same t a b c same = condition_agrees a b t c (Agree-from_contains a b (condition_nodes t c) same)

module _ (t : TreeValue) (laws : CellLaws t) where
  -- so is a condition of the tree, by the nodes that it reads, itself or by other conditions
  pub cell_same : (a b : Assignment) (c : Cell) → IsCellOf t c → IsCondition c → ((m : Node) → Reads t c m → a m ≡ b m) → cell_worth t a c ≡ cell_worth t b c
  cell_same a b (OfNode n) inside never same = absurd never
  cell_same a b (Definition d) inside is same =
      ap Level (condition_same t a b (condition_of t (Definition d)) (λ m c. same m ((laws.factors (Definition d) m inside is).0 c)))
  cell_same a b (Depends k) inside is same =
      ap Level (condition_same t a b (condition_of t (Depends k)) (λ m c. same m ((laws.factors (Depends k) m inside is).0 c)))
  cell_same a b (Visible k) inside is same =
      ap Level (condition_same t a b (condition_of t (Visible k)) (λ m c. same m ((laws.factors (Visible k) m inside is).0 c)))

  -- the nodes that a kept cell reads are kept
  pub reads_kept : (kept : List (Option Value)) → IsClosed t kept → (c : Cell) (m : Node) → IsCellOf t c → IsHeld t kept c → Reads t c m → IsNodeOf t m × IsKept t kept m
  reads_kept kept are c m inside held (itself read) = (laws.within c (OfNode m) inside read, are.closed c (OfNode m) inside held read)
  reads_kept kept are c m inside held (through {e = e} is read rest) =
      reads_kept kept are e m (laws.within c e inside read) (are.closed c e inside held read) rest

  -- and so are those that a kept node is computed from
  pub used_kept : (kept : List (Option Value)) → IsClosed t kept → (n m : Node) → IsNodeOf t n → IsKept t kept n → Uses t n m → IsNodeOf t m × IsKept t kept m
  used_kept kept are n m inside is uses = reads_kept kept are (OfNode n) m inside is ((laws.uses n m inside).0 uses)

  module _ (u : UserValues) (kept : List (Option Value)) (are : AreKept t u kept) where
    -- a node that is kept has the solution's value
    pub node_right : (n : Node) → IsNodeOf t n → IsKept t kept n → assignment_of t kept n ≡ solution t u n
    node_right n inside is = go (value_at t kept n) refl is
      where
        go : (o : Option Value) → value_at t kept n ≡ o → is_some o ≡ true → assignment_of t kept n ≡ solution t u n
        go None e some = absurd (true≢false (sym some))
        go (Some v) e some = ap (λ o. unwrap_or o (Level No)) e ∙ are.right (OfNode n) v inside e

    pub kept_solved : IsSolved t u kept
    kept_solved = record {
      right = node_right;
      used = λ n m inside is uses. let there = used_kept kept are.closed n m inside is uses in node_right m there.0 there.1;
    }

    pub kept_right : AreRight t kept
    unfolding AreRight
    kept_right c v inside is at =
        are.right c v inside at
        ∙ cell_same (solution t u) (assignment_of t kept) c inside is
        (λ m reads.
        let held : IsHeld t kept c = ap is_some at in
        let there = reads_kept kept are.closed c m inside held reads in
        sym (node_right m there.0 there.1))

-- where each node has the solution's value
pub all_solved : (t : TreeValue) (u : UserValues) (values : List (Option Value)) → IsAccepted t → AreSolved t u values → IsSolved t u values
all_solved t u values accepted solved = record {
  right = λ n inside is. solved n inside;
  used = λ n m inside is uses. solved m (accepted.within n m inside uses);
}
