-- What nodes are one term.
use Rattle.std.proofs.Common.{◌≡◌, ◌≤◌, refl, ℕ, zero, suc, List, [], ◌∷◌, Option, Some, None, length, arith}
use Rattle.kc_statement.specs.declared.expr.Term.{Term}
use Rattle.kc_statement.specs.declared.expr.ExprNode.{ExprNode}
use Rattle.kc_statement.specs.declared.expr.ExprNode.TheVariants as node
use Rattle.kc_statement.specs.NodeFormula.{node_formula, IsKept}
use Rattle.kc_statement.specs.Grammar.{Formula, all_joined, any_joined, negations, lone_term, term_alone}

-- the term that a node is, and the one that it is without its parentheses
abbrev pub alone_node : ExprNode → Option Term
alone_node (node.Term x) = Some x
alone_node _ = None

abbrev pub lone_node : ExprNode → Option Term
lone_node (node.Term x) = Some x
lone_node (node.Group e) = lone_term e.value
lone_node _ = None

negations_lone : (n : ℕ) (f : Formula) → 1 ≤ n → None ≡ lone_term (negations n f)
negations_lone zero f some = absurd (omega (arith, some))
negations_lone (suc n) f some = refl

negations_alone : (n : ℕ) (f : Formula) → 1 ≤ n → None ≡ term_alone (negations n f)
negations_alone zero f some = absurd (omega (arith, some))
negations_alone (suc n) f some = refl

all_lone : (fs : List Formula) → 2 ≤ length fs → (None ≡ lone_term (all_joined fs)) × (None ≡ term_alone (all_joined fs))
all_lone [] h = absurd (omega (arith, h))
all_lone (f ∷ []) h = absurd (omega (arith, h))
all_lone (f ∷ g ∷ fs) h = (refl, refl)

any_lone : (fs : List Formula) → 2 ≤ length fs → (None ≡ lone_term (any_joined fs)) × (None ≡ term_alone (any_joined fs))
any_lone [] h = absurd (omega (arith, h))
any_lone (f ∷ []) h = absurd (omega (arith, h))
any_lone (f ∷ g ∷ fs) h = (refl, refl)

pub lone_node_is : (n : ExprNode) → IsKept n → lone_node n ≡ lone_term (node_formula n)
lone_node_is (node.Term x) h = refl
lone_node_is (node.BareModule x) h = refl
lone_node_is (node.Compare c o) h = refl
lone_node_is (node.Not n e) h = negations_lone n e.value h.0
lone_node_is (node.Group e) h = refl
lone_node_is (node.All es) h = (all_lone es.items h.0).0
lone_node_is (node.Any es) h = (any_lone es.items h.0).0

pub alone_node_is : (n : ExprNode) → IsKept n → alone_node n ≡ term_alone (node_formula n)
alone_node_is (node.Term x) h = refl
alone_node_is (node.BareModule x) h = refl
alone_node_is (node.Compare c o) h = refl
alone_node_is (node.Not n e) h = negations_alone n e.value h.0
alone_node_is (node.Group e) h = refl
alone_node_is (node.All es) h = (all_lone es.items h.0).1
alone_node_is (node.Any es) h = (any_lone es.items h.0).1
