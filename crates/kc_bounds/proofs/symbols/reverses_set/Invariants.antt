use Rattle.std.proofs.Common.{map, take}
use Rattle.kc_statement.specs.Tristate.{greatest_of}
use Rattle.kc_value.specs.Rule.{reverse_value}
use Rattle.kc_bounds.specs.Bounds.{CoversIn}
use Rattle.kc_bounds.proofs.symbols.reverses_set.Given as goal

abbrev pub invariant-loop-reverse : goal.invariant-loop-reverse
invariant-loop-reverse l =
    CoversIn l.bounds.tree l.bounds.modules l.greatest (λ a. greatest_of (map (reverse_value l.bounds.tree a) (take l.reverse-index l.reverses)))
