use Rattle.std.proofs.Common.{rules}
use Rattle.kc_value.proofs.SolutionLaws.{one_solution}
use Rattle.kc_value.proofs.UserLemmas.{empty_fits}
use Rattle.kc_value.proofs.user.User.empty.Goals as goal

pub returns-in_err-empty-clause-solved : goal.returns-in_err-empty-clause-solved
returns-in_err-empty-clause-solved c = λ u. one_solution c.args.tree.now u c.symbols.ensures.accepted

pub returns-in_err-vec-clause-solved : goal.returns-in_err-vec-clause-solved
returns-in_err-vec-clause-solved c = λ u. one_solution c.args.tree.now u c.symbols.ensures.accepted

pub returns-clause-user : goal.returns-clause-user
returns-clause-user c = empty_fits c.args.tree.now _ (search rules)

pub returns-clause-solved : goal.returns-clause-solved
returns-clause-solved c = λ u. one_solution c.args.tree.now u c.symbols.ensures.accepted
