use Rattle.std.proofs.Common.{◌≡◌}
use Rattle.kc_tree.specs.declared.node.Node.{Node}
use Rattle.kc_tree.specs.declared.node.Node.TheVariants.{Val}
use Rattle.kc_tree.specs.Uses.{Uses}
use Rattle.kc_value.specs.Known.{given}
use Rattle.kc_value.specs.Solution.{solution}
use Rattle.kc_value.proofs.ReasonAgreement.{reason_agrees}
use Rattle.kc_value.proofs.ReasonLaws.{only_reason, gives_solved}
use Rattle.kc_value.proofs.SolutionLaws.{one_solution}
use Rattle.kc_value.proofs.reason.reason_over.Goals as goal

pub returns-clause-reason : goal.returns-clause-reason
returns-clause-reason c =
    let t = c.args.known.now.tree in
    let u = c.args.user.now in
    let same : (n : Node) → Uses t (Val c.args.symbol) n → given c.args.known.now n ≡ solution t u n =
    λ n uses. c.requires.solved n (c.reason_among.ensures.accepted.within (Val c.args.symbol) n c.requires.inside uses)
    in
    reason_agrees t u (given c.args.known.now) (solution t u) c.args.symbol c.reason_among.result same c.reason_among.ensures.reason

pub returns-clause-only : goal.returns-clause-only
returns-clause-only c =
    λ other is. only_reason c.args.known.now.tree c.args.user.now (solution c.args.known.now.tree c.args.user.now) c.args.symbol other c.reason_among.result is (returns-clause-reason c)

pub returns-clause-one : goal.returns-clause-one
returns-clause-one c = one_solution c.args.known.now.tree c.args.user.now c.reason_among.ensures.accepted

pub returns-clause-gives : goal.returns-clause-gives
returns-clause-gives c =
    gives_solved c.args.known.now.tree c.args.user.now (solution c.args.known.now.tree c.args.user.now) c.args.symbol c.reason_among.result
    ((returns-clause-one c).solves) c.requires.inside (returns-clause-reason c)
