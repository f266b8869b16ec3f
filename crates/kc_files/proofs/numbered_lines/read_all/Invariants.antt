use Rattle.std.proofs.Common.{◌≤◌, ◌+◌, length}
use Rattle.kc_files.specs.LineSteps.{readings_in}
use Rattle.kc_files.proofs.NumberedLaws.{IsRead}
use Rattle.kc_files.proofs.numbered_lines.read_all.Given as goal

-- what was read are the lines before the rest
abbrev pub invariant-loop-rest : goal.invariant-loop-rest
invariant-loop-rest l = record {
  read : IsRead l.tree (readings_in l.tree l.prefix l.bytes) (l.number + 1) (readings_in l.tree l.prefix l.rest) l.read;
  count : l.number + length l.rest ≤ length l.bytes;
}

abbrev pub decreases-loop-rest : goal.decreases-loop-rest
decreases-loop-rest l = length l.rest
