use Rattle.std.proofs.Common.{take}
use Rattle.std.specs.Prelude.{All}
use Rattle.kc_how.specs.Apart.{OfOtherChoice}
use Rattle.kc_how.proofs.apart.is_of_other_choice.Given as goal

-- the lines so far are of other choices
abbrev pub invariant-loop-other : goal.invariant-loop-other
invariant-loop-other l = All (OfOtherChoice l.tree l.line) (take l.other-index l.later)
