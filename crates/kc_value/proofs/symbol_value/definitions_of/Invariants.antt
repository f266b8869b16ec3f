use Rattle.std.proofs.Common.{◌≡◌, map, drop, filter_map, slice_get}
use Rattle.std.specs.Option.{option_or}
use Rattle.kc_statement.specs.Tristate.{greatest, greatest_of}
use Rattle.kc_value.specs.Known.{given}
use Rattle.kc_value.specs.Conditions.{dependency}
use Rattle.kc_value.specs.Rule.{definition_default}
use Rattle.kc_value.proofs.symbol_value.definitions_of.Given as goal

abbrev pub invariant-loop-number : goal.invariant-loop-number
invariant-loop-number l =
    let a = given l.known in
    let numbers = l.symbol.definitions in
    let all = filter_map (slice_get l.known.tree.definitions) numbers in
    let rest = filter_map (slice_get l.known.tree.definitions) (drop l.number-index numbers) in
    record {
      default : option_or l.defined.default (slice_get (filter_map (definition_default l.known.tree a) rest) 0) ≡ slice_get (filter_map (definition_default l.known.tree a) all) 0;
      direct : greatest l.defined.direct (greatest_of (map (dependency l.known.tree a) rest)) ≡ greatest_of (map (dependency l.known.tree a) all);
    }
