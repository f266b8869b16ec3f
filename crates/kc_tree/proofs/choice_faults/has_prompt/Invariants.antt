use Rattle.std.proofs.Common.{◌≡◌, false, is_some, take, slice_get}
use Rattle.std.specs.List.{list_any}
use Rattle.std.specs.Option.{option_map_or}
use Rattle.kc_outline.specs.TreeValue.{prompt_of}
use Rattle.kc_tree.proofs.choice_faults.has_prompt.Given as goal

-- none so far
abbrev pub invariant-loop-definition : goal.invariant-loop-definition
invariant-loop-definition l = list_any (λ j. option_map_or (λ d. is_some (prompt_of d)) (slice_get l.outline.definitions j) false) (take l.definition-index l.definition-items) ≡ false
