use Rattle.std.proofs.Common.{◌-◌, ◌+◌, sym, ap, ◌∙◌, arith}
use Rattle.std.specs.Option.{option_copied}
use Rattle.kc_line_facts.proofs.BlockLaws.{blocks_from-next, blocks_from-none}
use Rattle.kc_line_facts.proofs.ranges.are_blocks_free.Goals as goal

pub loop-preserved : goal.loop-preserved
loop-preserved c =
    let t = c.args.tree.now in
    let left = c.args.limit - (c.loop.counter + 1) in
    let next = blocks_from-next t.blocks (c.args.limit - c.loop.counter) left c.loop.next c.in-Some.block.now (omega arith) (sym c.block_at.ensures ∙ ap (λ o. option_copied o) c.in-Some.is) in
    let invariant = rw next at c.loop.invariant in
    grind (arith, invariant)

pub returns-in_default : goal.returns-in_default
returns-in_default c =
    let t = c.args.tree.now in
    let none = blocks_from-none t.blocks (c.args.limit - c.loop.counter) c.loop.next (sym c.block_at.ensures ∙ ap (λ o. option_copied o) c.in_default.is) in
    rw none at c.loop.invariant
