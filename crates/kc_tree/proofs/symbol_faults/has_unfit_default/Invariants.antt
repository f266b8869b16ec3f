use Rattle.std.proofs.Common.{◌≡◌, false, take, slice_get}
use Rattle.std.specs.List.{list_any}
use Rattle.std.specs.Option.{option_map_or}
use Rattle.kc_tree.specs.SymbolFaults.{has_unfit}
use Rattle.kc_tree.proofs.symbol_faults.has_unfit_default.Given as goal

-- none so far
abbrev pub invariant-loop-definition : goal.invariant-loop-definition
invariant-loop-definition l = list_any (λ j. option_map_or (has_unfit l.kind) (slice_get l.outline.definitions j) false) (take l.definition-index l.definition-items) ≡ false
