use Rattle.std.proofs.Common.{◌≡◌, false, length, take, slice_get}
use Rattle.std.specs.Prelude.{nat_lt}
use Rattle.std.specs.List.{list_any}
use Rattle.std.specs.Option.{option_map_or}
use Rattle.kc_tree.proofs.symbol_faults.has_two_prompts.Given as goal

-- none so far
abbrev pub invariant-loop-definition : goal.invariant-loop-definition
invariant-loop-definition l = list_any (λ j. option_map_or (λ d. nat_lt 1 (length d.prompts)) (slice_get l.outline.definitions j) false) (take l.definition-index l.definition-items) ≡ false
