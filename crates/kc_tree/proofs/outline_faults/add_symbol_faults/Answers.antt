use Rattle.std.proofs.Common.{rules, tests, ◌≡◌, ◌+◌, ◌++◌, option_to_list}
use Rattle.std.specs.List.{range_with_len}
use Rattle.kc_tree.specs.OutlineFaults.{symbol_fault_at}
use Rattle.kc_tree.proofs.AllFaultLaws.{added, filter_map_range_more}
use Rattle.kc_tree.proofs.outline_faults.add_symbol_faults.Goals as goal
use Rattle.kc_tree.proofs.outline_faults.add_symbol_faults.Goals.{then-has_problem+in_ok-push, else-has_problem}

pub loop-number-preserved : goal.loop-number-preserved
loop-number-preserved c =
    let number = c.loop-number.number in
    let fault = symbol_fault_at c.args.outline.now c.args.problem in
    let one : c.if-has_problem.faults.items ≡ c.loop-number.faults.items ++ option_to_list (fault number) =
    elim c.if-has_problem.branch [
      | then-has_problem+in_ok-push w ↦ search (rules, tests)
      | else-has_problem w ↦ search (rules, tests)
    ] in
    added fault _ _ _ (range_with_len 0 number) (range_with_len 0 (number + 1)) number c.loop-number.invariant (filter_map_range_more fault number) one
