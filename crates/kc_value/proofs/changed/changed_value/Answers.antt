use Rattle.std.proofs.Common.{◌≡◌, true, false, Some, None, if◌then◌else◌, sym, ap, ◌∙◌}
use Rattle.kc_tree.specs.declared.node.Node.{Node}
use Rattle.kc_tree.specs.Uses.{Uses}
use Rattle.kc_value.specs.ChangedValue.{changed_value, same_value}
use Rattle.kc_value.specs.Known.{given}
use Rattle.kc_value.specs.Solution.{solution}
use Rattle.kc_value.specs.Without.{value_without}
use Rattle.kc_value.proofs.SolutionLaws.{one_solution}
use Rattle.kc_value.proofs.changed.changed_value.Goals as goal

pub returns-in_err-value-clause-solved : goal.returns-in_err-value-clause-solved
returns-in_err-value-clause-solved c = λ u. one_solution c.args.known.now.tree u c.value_at.ensures.accepted

pub returns-in_err-without-clause-solved : goal.returns-in_err-without-clause-solved
returns-in_err-without-clause-solved c = λ u. one_solution c.args.known.now.tree u c.value_at.ensures.accepted

pub returns-then-is_same_value-clause-solved : goal.returns-then-is_same_value-clause-solved
returns-then-is_same_value-clause-solved c = λ u. one_solution c.args.known.now.tree u c.value_at.ensures.accepted

pub returns-clause-solved : goal.returns-clause-solved
returns-clause-solved c = λ u. one_solution c.args.known.now.tree u c.value_at.ensures.accepted

pub returns-then-is_same_value-clause-value : goal.returns-then-is_same_value-clause-value
unfolding changed_value
returns-then-is_same_value-clause-value c u solved =
    let t = c.args.known.now.tree in
    let n = c.args.node in
    let is : c.in_ok-value.value ≡ solution t u n = c.in_ok-value.ensures.value ∙ solved n c.requires.inside in
    let right : (m : Node) → Uses t n m → given c.args.known.now m ≡ solution t u m = λ m uses. solved m (c.value_at.ensures.accepted.within n m c.requires.inside uses) in
    let alone = c.in_ok-without.ensures u right in
    let same : same_value (solution t u n) (value_without t u n) ≡ true =
    sym (c.is_same_value.ensures.test ∙ ap (λ v. same_value v c.in_ok-without.without) is ∙ ap (same_value (solution t u n)) alone) ∙ c.if-is_same_value.true
    in
    sym (ap (λ b. if b then None else Some (solution t u n)) same)

pub returns-clause-value : goal.returns-clause-value
unfolding changed_value
returns-clause-value c u solved =
    let t = c.args.known.now.tree in
    let n = c.args.node in
    let is : c.in_ok-value.value ≡ solution t u n = c.in_ok-value.ensures.value ∙ solved n c.requires.inside in
    let right : (m : Node) → Uses t n m → given c.args.known.now m ≡ solution t u m = λ m uses. solved m (c.value_at.ensures.accepted.within n m c.requires.inside uses) in
    let alone = c.in_ok-without.ensures u right in
    let other : same_value (solution t u n) (value_without t u n) ≡ false =
    sym (c.is_same_value.ensures.test ∙ ap (λ v. same_value v c.in_ok-without.without) is ∙ ap (same_value (solution t u n)) alone) ∙ c.if-is_same_value.false
    in
    ap Some is ∙ sym (ap (λ b. if b then None else Some (solution t u n)) other)
