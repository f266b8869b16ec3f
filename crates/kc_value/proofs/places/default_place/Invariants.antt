use Rattle.std.proofs.Common.{◌≡◌, drop, filter_map, slice_get}
use Rattle.kc_value.specs.Known.{given}
use Rattle.kc_value.specs.Reasons.{default_in}
use Rattle.kc_value.proofs.places.default_place.Given as goal

abbrev pub invariant-loop-number : goal.invariant-loop-number
invariant-loop-number l =
    let found = default_in l.known.tree (given l.known) in
    let numbers = l.symbol.definitions in
    slice_get (filter_map found (drop l.number-index numbers)) 0 ≡ slice_get (filter_map found numbers) 0
