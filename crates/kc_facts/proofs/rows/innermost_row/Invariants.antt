use Rattle.std.proofs.Common.{◌≡◌, ◌-◌}
use Rattle.kc_outline.specs.declared.limits.TheConstants.{MOST_OPEN_BLOCKS}
use Rattle.kc_lines.specs.BlocksOutwards.{blocks_outwards}
use Rattle.kc_facts.specs.RowSteps.{first_found, found_in}
use Rattle.kc_facts.proofs.rows.innermost_row.Given as goal

abbrev pub invariant-loop : goal.invariant-loop
invariant-loop l =
    first_found (found_in l.found) (blocks_outwards l.tree.blocks (MOST_OPEN_BLOCKS - l.counter) l.next)
    ≡ first_found (found_in l.found) (blocks_outwards l.tree.blocks MOST_OPEN_BLOCKS l.fn.innermost)
