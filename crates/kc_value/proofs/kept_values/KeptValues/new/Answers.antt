use Rattle.kc_value.proofs.KeptLaws.{laws_hold}
use Rattle.kc_value.proofs.SolutionLaws.{one_solution}
use Rattle.kc_value.proofs.kept_values.KeptValues.new.Goals as goal

pub returns-in_err-empty-clause-solved : goal.returns-in_err-empty-clause-solved
returns-in_err-empty-clause-solved c = λ u. one_solution c.args.tree.now u c.use_table.ensures.accepted

pub returns-in_err-empty-clause-laws : goal.returns-in_err-empty-clause-laws
returns-in_err-empty-clause-laws c = laws_hold c.args.tree.now c.use_table.ensures.laws

pub returns-in_err-with_capacity-clause-solved : goal.returns-in_err-with_capacity-clause-solved
returns-in_err-with_capacity-clause-solved c = λ u. one_solution c.args.tree.now u c.use_table.ensures.accepted

pub returns-in_err-with_capacity-clause-laws : goal.returns-in_err-with_capacity-clause-laws
returns-in_err-with_capacity-clause-laws c = laws_hold c.args.tree.now c.use_table.ensures.laws

pub returns-clause-solved : goal.returns-clause-solved
returns-clause-solved c = λ u. one_solution c.args.tree.now u c.use_table.ensures.accepted

pub returns-clause-laws : goal.returns-clause-laws
returns-clause-laws c = laws_hold c.args.tree.now c.use_table.ensures.laws
