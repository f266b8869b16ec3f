use Rattle.std.proofs.Common.{rules, slice_get}
use Rattle.kc_tree.specs.ConditionTable.{dependencies_in}
use Rattle.kc_value.specs.Known.{given}
use Rattle.kc_value.proofs.FactorLists.{least_judged}
use Rattle.kc_value.proofs.factors.dependency_factors.Goals as goal

pub returns-clause-value : goal.returns-clause-value
returns-clause-value c =
    least_judged c.args.known.now.tree (given c.args.known.now) (dependencies_in (slice_get c.args.known.now.tree.definitions c.args.definition))
    c.add_numbered.new.factors.items (search rules)
