use Rattle.std.proofs.Common.{◌≡◌, map, drop}
use Rattle.kc_statement.specs.Tristate.{greatest, greatest_of}
use Rattle.kc_value.specs.Known.{given}
use Rattle.kc_facts.specs.Forced.{worth}
use Rattle.kc_facts.proofs.forced.most_worth.Given as goal

-- the most of the definitions so far, and of those that are left
abbrev pub invariant-loop-number : goal.invariant-loop-number
invariant-loop-number l =
    greatest l.most (greatest_of (map (worth l.known.tree (given l.known)) (drop l.number-index l.numbers)))
    ≡ greatest_of (map (worth l.known.tree (given l.known)) l.numbers)
