use Rattle.std.proofs.Common.{List, subst, filter, sym, ◌∙◌}
use Rattle.std.specs.List.{All}
use Rattle.kc_statement.specs.Keywords.{is_choice}
use Rattle.kc_tree.specs.declared.outline_faults.OutlineFault.{OutlineFault}
use Rattle.kc_tree.specs.OutlineFaults.{IsInside}
use Rattle.kc_tree.proofs.AllFaultLaws.{all_inside}
use Rattle.kc_tree.proofs.every_fault.tree_faults.Goals as goal

pub reported_faults-requires : goal.reported_faults-requires
reported_faults-requires c =
    let lines = c.args.lines.now in
    subst (λ (fs : List OutlineFault). All (IsInside (filter is_choice lines)) fs) (sym (c.as_slice.ensures.value ∙ c.in_ok-found.ensures)) (all_inside lines c.args.outline.now c.requires.choices)
