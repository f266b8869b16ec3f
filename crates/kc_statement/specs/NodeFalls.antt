-- Each part of a node is smaller than it.
use Rattle.std.specs.Prelude.{ℕ, zero, suc, ◌+◌, ◌≤◌, max, List, [], ◌∷◌, length}
use Rattle.std.proofs.Common.{arith}
use denote.Param.Weighed.{most}
use Rattle.kc_statement.specs.declared.tri.Tri.TheVariants as tri
use Rattle.kc_statement.specs.declared.expr.Term.TheVariants as term
use Rattle.kc_statement.specs.Formula.{Formula, atom, both, either, joined, negations, marks}
use Rattle.kc_statement.specs.declared.expr.ExprNode.{ExprNode}
use Rattle.kc_statement.specs.declared.expr.ExprNode.TheVariants.{Term, BareModule, Compare, Not, Group, All, Any}
use Rattle.kc_statement.specs.declared.expr.Expr.TheDeep.{deep-ExprNode}
use Rattle.kc_statement.specs.NodeFormula.{node_formula, IsKept}

pub negations_above : (n : ℕ) (f : Formula) → n + marks f ≤ marks (negations n f)
negations_above zero f = omega arith
negations_above (suc n) f = omega (arith, negations_above n f)

module _ (join : Formula → Formula → Formula) (above : (f g : Formula) → marks f + marks g + 1 ≤ marks (join f g)) (empty : Formula) where
  most_le-joined : (f : Formula) (fs : List Formula) → most (λ g. marks g + 1) (f ∷ fs) ≤ marks (joined join empty (f ∷ fs)) + 1
  most_le-joined f [] = omega arith
  most_le-joined f (g ∷ fs) = omega (arith, most_le-joined g fs, above f (joined join empty (g ∷ fs)))

  pub most_lt-joined : (fs : List Formula) → 2 ≤ length fs → most (λ g. marks g + 1) fs ≤ marks (joined join empty fs)
  most_lt-joined [] h = absurd (omega (arith, h))
  most_lt-joined (f ∷ []) h = absurd (omega (arith, h))
  most_lt-joined (f ∷ g ∷ fs) h = omega (arith, most_le-joined g fs, above f (joined join empty (g ∷ fs)))

pub node_falls : (n : ExprNode) → IsKept n → max (deep-ExprNode n) 0 ≤ marks (node_formula n)
node_falls (Term x) h = omega arith
node_falls (BareModule x) h = omega arith
node_falls (Compare c o) h = omega arith
node_falls (Not n e) h = omega (arith, h.0, negations_above n e.value)
node_falls (Group e) h = omega arith
node_falls (All es) h = omega (arith, most_lt-joined both (λ f g. omega arith) (atom (term.Tri tri.Yes)) es.items h.0)
node_falls (Any es) h = omega (arith, most_lt-joined either (λ f g. omega arith) (atom (term.Tri tri.No)) es.items h.0)
