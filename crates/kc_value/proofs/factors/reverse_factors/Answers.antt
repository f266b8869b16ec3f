use Rattle.std.proofs.Common.{rules}
use Rattle.kc_tree.specs.ConditionTable.{of_reverse}
use Rattle.kc_value.specs.Known.{given}
use Rattle.kc_value.proofs.FactorLists.{least_judged}
use Rattle.kc_value.proofs.factors.reverse_factors.Goals as goal

pub returns-clause-value : goal.returns-clause-value
returns-clause-value c =
    least_judged c.args.known.now.tree (given c.args.known.now) (of_reverse c.args.known.now.tree c.args.reverse.now)
    c.add_numbered.new.factors.items (search rules)
