use Rattle.std.proofs.Common.{◌≡◌, take, reverse}
use Rattle.kc_statement.specs.Names.{names_of}
use Rattle.kc_outline.specs.ContextAfter.{IsPlaceAfter}
use Rattle.kc_outline.proofs.FaultyLaws.{AreFaultsBefore, IsShallowBefore}
use Rattle.kc_outline.proofs.lines_at_fault.faulty_lines.Given as goal

-- the faults of the lines before this place are found, and none of them opens one block too many
abbrev pub invariant-loop-place : goal.invariant-loop-place
invariant-loop-place l = record {
  names : l.outline.names ≡ names_of l.lines;
  context : IsPlaceAfter (reverse (take l.place l.lines)) l.context;
  faults : AreFaultsBefore l.lines l.place l.faults.items;
  shallow : IsShallowBefore l.lines l.place;
}
