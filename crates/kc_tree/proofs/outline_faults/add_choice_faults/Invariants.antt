use Rattle.std.proofs.Common.{◌≡◌, ◌++◌, filter_map}
use Rattle.std.specs.List.{range_with_len}
use Rattle.kc_tree.specs.OutlineFaults.{choice_fault_at}
use Rattle.kc_tree.proofs.outline_faults.add_choice_faults.Given as goal

-- the choices below this number are added
abbrev pub invariant-loop-number : goal.invariant-loop-number
invariant-loop-number l = l.faults.items ≡ l.initial.faults.items ++ filter_map (choice_fault_at l.outline) (range_with_len 0 l.number)
