use Rattle.std.proofs.Common.{◌≡◌, map, drop}
use Rattle.kc_statement.specs.Tristate.{greatest, greatest_of}
use Rattle.kc_value.specs.Known.{given}
use Rattle.kc_value.specs.Rule.{reverse_value}
use Rattle.kc_value.proofs.symbol_value.reverses_tri.Given as goal

abbrev pub invariant-loop-reverse : goal.invariant-loop-reverse
invariant-loop-reverse l =
    greatest l.greatest (greatest_of (map (reverse_value l.known.tree (given l.known)) (drop l.reverse-index l.reverses)))
    ≡ greatest_of (map (reverse_value l.known.tree (given l.known)) l.reverses)
