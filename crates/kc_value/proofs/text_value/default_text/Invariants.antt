use Rattle.std.proofs.Common.{◌≡◌, drop, filter_map, slice_get}
use Rattle.kc_value.specs.Known.{given}
use Rattle.kc_value.specs.TextRule.{definition_text}
use Rattle.kc_value.proofs.text_value.default_text.Given as goal

abbrev pub invariant-loop-number : goal.invariant-loop-number
invariant-loop-number l =
    let text = definition_text l.known.tree (given l.known) in
    let numbers = l.symbol.definitions in
    slice_get (filter_map text (filter_map (slice_get l.known.tree.definitions) (drop l.number-index numbers))) 0
    ≡ slice_get (filter_map text (filter_map (slice_get l.known.tree.definitions) numbers)) 0
