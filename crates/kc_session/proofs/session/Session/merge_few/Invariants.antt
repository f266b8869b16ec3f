use Rattle.std.proofs.Common.{length, reverse}
use Rattle.kc_session.proofs.MergeLaws.{IsMerging}
use Rattle.kc_session.proofs.session.Session.merge_few.Given as goal

-- the assignments that are left, from the last of the list back, give what all did
abbrev pub invariant-loop-assign : goal.invariant-loop-assign
invariant-loop-assign l = IsMerging l.fn.self l.self l.fn.assigns.items (reverse l.assigns.items)

abbrev pub decreases-loop-assign : goal.decreases-loop-assign
decreases-loop-assign l = length l.assigns.items
