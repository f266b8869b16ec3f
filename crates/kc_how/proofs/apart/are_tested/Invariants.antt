use Rattle.std.proofs.Common.{◌↔◌, length}
use Rattle.kc_how.specs.Apart.{AreTested}
use Rattle.kc_how.proofs.apart.are_tested.Given as goal

abbrev pub decreases-loop-line : goal.decreases-loop-line
decreases-loop-line l = length l.rest

-- the lines pass the test where those that are left do
abbrev pub invariant-loop-line : goal.invariant-loop-line
invariant-loop-line l = AreTested l.tree l.rest ↔ AreTested l.tree l.lines
