use Rattle.std.proofs.Common.{◌≡◌, false, sym, ap, ◌∙◌, subst}
use Rattle.std.proofs.lemmas.Result.{IfOk-weaker}
use Rattle.kc_tree.specs.declared.node.Node.{Node}
use Rattle.kc_tree.specs.declared.node.Node.TheVariants.{Val}
use Rattle.kc_value.specs.Known.{given}
use Rattle.kc_value.specs.Rule.{rule}
use Rattle.kc_value.specs.Without.{selects_none, user_without, value_without}
use Rattle.kc_value.proofs.WithoutLemmas.{without_member, without_solution}
use Rattle.kc_value.proofs.without.value_without.Goals as goal

pub returns-then-selects_none : goal.returns-then-selects_none
returns-then-selects_none c u right =
    let n = c.args.node in
    without_member c.args.known.now.tree u n (sym (c.selects_none.ensures.test ∙ ap (λ x. selects_none x n) c.tree.ensures.tree) ∙ c.if-selects_none.true)

pub returns-in-Val : goal.returns-in-Val
returns-in-Val c u right =
    let t = c.args.known.now.tree in
    let a = given c.args.known.now in
    let n = c.args.node in
    let some : selects_none t n ≡ false = sym (c.selects_none.ensures.test ∙ ap (λ x. selects_none x n) c.tree.ensures.tree) ∙ c.if-selects_none.false in
    IfOk-weaker c.value_alone.result
    (λ v. v ≡ rule t (user_without u (Val c.in-Val.symbol)) a (Val c.in-Val.symbol))
    (λ v. v ≡ value_without t u n)
    (λ v is. without_solution t u a n v some right (subst (λ (m : Node). v ≡ rule t (user_without u m) a m) (sym c.in-Val.is) is))
    (c.value_alone.ensures u)

pub returns-in-Sel : goal.returns-in-Sel
returns-in-Sel c u right =
    let t = c.args.known.now.tree in
    let a = given c.args.known.now in
    let n = c.args.node in
    let some : selects_none t n ≡ false = sym (c.selects_none.ensures.test ∙ ap (λ x. selects_none x n) c.tree.ensures.tree) ∙ c.if-selects_none.false in
    let v = c.selection_alone.result in
    without_solution t u a n v some right (subst (λ (m : Node). v ≡ rule t (user_without u m) a m) (sym c.in-Sel.is) (c.selection_alone.ensures u))
