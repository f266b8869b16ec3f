use Rattle.std.proofs.Common.{map, slice_get, take}
use Rattle.std.specs.Option.{option_map_or}
use Rattle.kc_statement.specs.declared.tri.Tri.TheVariants.{No}
use Rattle.kc_statement.specs.Tristate.{greatest_of}
use Rattle.kc_value.specs.Conditions.{dependency}
use Rattle.kc_bounds.specs.Bounds.{CoversIn}
use Rattle.kc_bounds.proofs.symbols.direct_set.Given as goal

abbrev pub invariant-loop-number : goal.invariant-loop-number
invariant-loop-number l =
    CoversIn l.bounds.tree l.bounds.modules l.greatest (λ a. greatest_of (map (λ n. option_map_or (dependency l.bounds.tree a) (slice_get l.bounds.tree.definitions n) No) (take l.number-index l.symbol.definitions)))
