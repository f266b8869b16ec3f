use Rattle.std.proofs.Common.{sym, ap, ◌∙◌, subst}
use Rattle.kc_outline.specs.TreeValue.{TreeValue}
use Rattle.kc_value.specs.ExprValue.{expr_value}
use Rattle.kc_value.specs.Known.{given}
use Rattle.kc_value.specs.Solution.{solution}
use Rattle.kc_bounds.specs.TriSets.{IsIn}
use Rattle.kc_bounds.proofs.OrderLemmas.{fixed_compare}
use Rattle.kc_bounds.proofs.comparisons.fixed_set.Goals as goal

pub returns : goal.returns
returns c = λ w u.
    let t = c.args.bounds.now.tree in
    let a = given c.nothing.result in
    let here = c.tri.ensures ∙ ap (λ (s : TreeValue). expr_value s a c.args.expr.now) c.nothing.ensures in
    let there = ap (expr_value t a) c.requires.written
    ∙ fixed_compare t a (solution t w) c.args.comparison c.args.operands.now.left c.args.operands.now.right c.requires.left c.requires.right
    ∙ ap (expr_value t (solution t w)) (sym c.requires.written) in
    subst (IsIn c.only.result) (here ∙ there) c.only.ensures
