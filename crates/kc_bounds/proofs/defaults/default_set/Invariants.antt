use Rattle.std.proofs.Common.{slice_get, take}
use Rattle.std.specs.Prelude.{option_and_then}
use Rattle.kc_value.specs.Rule.{definition_default}
use Rattle.kc_value.specs.Solution.{solution}
use Rattle.kc_value.specs.UserValues.{UserValues}
use Rattle.kc_bounds.specs.Bounds.{IsScoped}
use Rattle.kc_bounds.specs.TriSets.{IsAmong}
use Rattle.kc_bounds.proofs.TakenLists.{first}
use Rattle.kc_bounds.proofs.defaults.default_set.Given as goal

abbrev pub invariant-loop-number : goal.invariant-loop-number
invariant-loop-number l = (w : UserValues) → IsScoped l.bounds.tree l.bounds.modules w
    → IsAmong l.found (first (λ n. option_and_then (definition_default l.bounds.tree (solution l.bounds.tree w)) (slice_get l.bounds.tree.definitions n)) (take l.number-index l.symbol.definitions))
