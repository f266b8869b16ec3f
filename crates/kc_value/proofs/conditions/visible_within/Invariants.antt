use Rattle.std.proofs.Common.{◌≡◌, ◌-◌}
use Rattle.kc_statement.specs.Tristate.{least}
use Rattle.kc_outline.specs.TreeValue.{blocks_from}
use Rattle.kc_value.specs.Known.{given}
use Rattle.kc_value.specs.Conditions.{blocks_visible}
use Rattle.kc_value.proofs.conditions.visible_within.Given as goal

abbrev pub invariant-loop : goal.invariant-loop
invariant-loop l =
    let value = blocks_visible l.known.tree (given l.known) in
    least l.least (value (blocks_from l.known.tree.blocks (l.limit - l.counter) l.next)) ≡ value (blocks_from l.known.tree.blocks l.limit l.fn.innermost)
