-- What a node says of the expression that it is: the parts of an expression are smaller than it.
use Rattle.std.proofs.Common.{◌≡◌, ◌≤◌, subst, sym, ◌∙◌, ap, ℕ, ◌+◌, ◌*◌, List, [], ◌∷◌, length, arith}
use denote.Param.Weighed.{most}
use Rattle.kc_statement.specs.declared.tri.Tri.TheVariants as tri
use Rattle.kc_statement.specs.declared.expr.Term.TheVariants as term
use Rattle.kc_statement.specs.declared.expr.ExprNode.{ExprNode}
use Rattle.kc_statement.specs.declared.expr.Expr.TheDeep.{size-Expr}
use Rattle.kc_statement.specs.declared.expr.Expr.TheView.{size}
use Rattle.kc_statement.specs.Formula.{Formula, atom, both, either, negations, all_joined, any_joined, marks}
use Rattle.kc_statement.specs.NodeFormula.{node_formula, IsKept}
use Rattle.kc_statement.specs.NodeFalls.{most_lt-joined, negations_above}

pub kept_as : (n m : ExprNode) → n ≡ m → IsKept n → IsKept m
kept_as n m is kept = subst IsKept is kept

pub formula_as : (n m : ExprNode) (f : Formula) → node_formula n ≡ f → n ≡ m → node_formula m ≡ f
formula_as n m f formula is = ap node_formula (sym is) ∙ formula

-- the measure that the check tries counts each mark twice
pub most_twice : (fs : List Formula) → most (λ x. size-Expr x) fs ≤ 2 * most (λ g. marks g + 1) fs
most_twice [] = omega arith
most_twice (f ∷ fs) = omega (arith, most_twice fs)

-- the parts of a list are smaller than its formula
pub all_falls : (fs : List Formula) (f : Formula) → all_joined fs ≡ f → 2 ≤ length fs → most (λ x. size-Expr x) fs ≤ 2 * size f
all_falls fs f is several = rw (sym is) (omega (arith, most_twice fs, most_lt-joined both (λ f g. omega arith) (atom (term.Tri tri.Yes)) fs several))

pub any_falls : (fs : List Formula) (f : Formula) → any_joined fs ≡ f → 2 ≤ length fs → most (λ x. size-Expr x) fs ≤ 2 * size f
any_falls fs f is several = rw (sym is) (omega (arith, most_twice fs, most_lt-joined either (λ f g. omega arith) (atom (term.Tri tri.No)) fs several))

-- and so is what comes after a run of `!`
pub not_falls : (n : ℕ) (f g : Formula) → negations n f ≡ g → 1 ≤ n → size f + 1 ≤ size g
not_falls n f g is some = rw (sym is) (omega (arith, some, negations_above n f))
