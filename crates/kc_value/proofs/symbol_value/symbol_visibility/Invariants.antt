use Rattle.std.proofs.Common.{◌≡◌, map, drop, filter_map, slice_get}
use Rattle.kc_statement.specs.Tristate.{greatest, greatest_of}
use Rattle.kc_value.specs.Known.{given}
use Rattle.kc_value.specs.Conditions.{prompt_value}
use Rattle.kc_value.proofs.symbol_value.symbol_visibility.Given as goal

abbrev pub invariant-loop-number : goal.invariant-loop-number
invariant-loop-number l =
    let value = prompt_value l.known.tree (given l.known) in
    let numbers = l.symbol.definitions in
    greatest l.greatest (greatest_of (map value (filter_map (slice_get l.known.tree.definitions) (drop l.number-index numbers))))
    ≡ greatest_of (map value (filter_map (slice_get l.known.tree.definitions) numbers))
