use Rattle.std.proofs.Common.{take}
use Rattle.kc_value.specs.Solution.{solution}
use Rattle.kc_value.specs.UserValues.{UserValues}
use Rattle.kc_bounds.specs.Given.{given_at}
use Rattle.kc_bounds.specs.Bounds.{IsScoped}
use Rattle.kc_bounds.specs.TriSets.{IsAmong}
use Rattle.kc_bounds.proofs.TakenLists.{first}
use Rattle.kc_bounds.proofs.defaults.definition_choice.Given as goal

abbrev pub invariant-loop-default : goal.invariant-loop-default
invariant-loop-default l = (w : UserValues) → IsScoped l.bounds.tree l.bounds.modules w
    → IsAmong l.found (first (given_at l.bounds.tree (solution l.bounds.tree w) l.number) (take l.default-index l.default-items))
