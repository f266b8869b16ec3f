use Rattle.std.proofs.Common.{length}
use Rattle.std.specs.Prelude.{All}
use Rattle.kc_value.specs.Assignment.{assignment_of}
use Rattle.kc_files.specs.Outcomes.{IsPlacedFor}
use Rattle.kc_files.proofs.OutcomeSearch.{IsSearch}
use Rattle.kc_files.proofs.outcomes.outcomes_back.Given as goal

-- the lines that are left are the first ones, and those after them were gone over
abbrev pub invariant-loop-left : goal.invariant-loop-left
invariant-loop-left l = record {
  searched : IsSearch l.tree (assignment_of l.tree l.values) l.lines l.left l.search;
  fitting : All (IsPlacedFor l.tree) l.left;
}

abbrev pub decreases-loop-left : goal.decreases-loop-left
decreases-loop-left l = length l.left
