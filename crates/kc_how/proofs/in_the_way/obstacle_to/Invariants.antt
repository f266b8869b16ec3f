use Rattle.kc_how.specs.InTheWay.{IsInTheWay}
use Rattle.kc_how.proofs.in_the_way.obstacle_to.Given as goal

abbrev pub invariant-loop-step : goal.invariant-loop-step
invariant-loop-step l = IsInTheWay l.limits.tree l.found
