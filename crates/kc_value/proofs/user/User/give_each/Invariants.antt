use Rattle.kc_value.proofs.AllValueLaws.{HasGiven}
use Rattle.kc_value.proofs.user.User.give_each.Given as goal

-- the symbols so far have their values
abbrev pub invariant-loop-number : goal.invariant-loop-number
invariant-loop-number l = HasGiven l.tree l.all l.number l.self
