use Rattle.std.proofs.Common.{take}
use Rattle.std.specs.Prelude.{All}
use Rattle.kc_how.specs.Answer.{IsLine}
use Rattle.kc_how.proofs.line_test.are_lines.Given as goal

-- the lines so far can be read back
abbrev pub invariant-loop-line : goal.invariant-loop-line
invariant-loop-line l = All (IsLine l.tree) (take l.line-index l.lines)
