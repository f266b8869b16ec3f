use Rattle.std.proofs.Common.{◌≡◌, take}
use Rattle.kc_how.proofs.copies.copies.Given as goal

-- the lines so far
abbrev pub invariant-loop-line : goal.invariant-loop-line
invariant-loop-line l = l.copies.items ≡ take l.line-index l.lines
