use Rattle.std.proofs.Common.{◌≤◌, ◌-◌, length}
use Rattle.kc_value.specs.FillWalk.{ArePresent}
use Rattle.kc_value.proofs.filling.first_missing.Given as goal

-- the numbers so far are those of cells with values
abbrev pub invariant-loop-place : goal.invariant-loop-place
invariant-loop-place l = record {
  from : l.fn.from ≤ l.place;
  passed : ArePresent l.summaries l.numbers l.fn.from l.place;
}

abbrev pub decreases-loop-place : goal.decreases-loop-place
decreases-loop-place l = length l.numbers - l.place
