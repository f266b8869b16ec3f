use Rattle.std.proofs.Common.{◌≡◌, ◌-◌}
use Rattle.std.specs.List.{list_all}
use Rattle.kc_outline.specs.TreeValue.{blocks_from}
use Rattle.kc_line_facts.specs.Ranges.{is_free_block}
use Rattle.kc_line_facts.proofs.ranges.are_blocks_free.Given as goal

abbrev pub invariant-loop : goal.invariant-loop
invariant-loop l =
    list_all is_free_block (blocks_from l.tree.blocks (l.limit - l.counter) l.next) ≡ list_all is_free_block (blocks_from l.tree.blocks l.limit l.fn.innermost)
