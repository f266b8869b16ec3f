use Rattle.std.proofs.Common.{◌≡◌, ◌-◌}
use Rattle.kc_outline.specs.declared.limits.TheConstants.{MOST_OPEN_BLOCKS}
use Rattle.kc_lines.specs.LoopSteps.{first_among, part_in}
use Rattle.kc_lines.specs.BlocksOutwards.{blocks_outwards}
use Rattle.kc_lines.proofs.sought.Sought.around.Given as goal

abbrev pub invariant-loop : goal.invariant-loop
invariant-loop l =
    first_among (part_in l.self.outline.now l.self.node l.lines) (blocks_outwards l.self.outline.now.blocks (MOST_OPEN_BLOCKS - l.counter) l.next)
    ≡ first_among (part_in l.self.outline.now l.self.node l.lines) (blocks_outwards l.self.outline.now.blocks MOST_OPEN_BLOCKS l.fn.innermost)
