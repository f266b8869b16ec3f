use Rattle.std.proofs.Common.{◌-◌, ◌+◌, sym, ap, ◌∙◌, arith}
use Rattle.std.specs.Prelude.{option_and_then}
use Rattle.std.specs.Option.{option_copied}
use Rattle.kc_lines.specs.LoopSteps.{part_in, part_within}
use Rattle.kc_lines.proofs.LoopLaws.{around_end, around_last, around_missing, around_later}
use Rattle.kc_lines.proofs.sought.Sought.around.Goals as goal

pub returns-in_default : goal.returns-in_default
returns-in_default c =
    let tree = c.args.self.now.outline.now in
    around_end (part_in tree c.args.self.now.node c.args.lines) tree.blocks (64 - c.loop.counter) c.loop.next _ c.in_default.is c.loop.invariant

pub returns-in_default-block_at : goal.returns-in_default-block_at
returns-in_default-block_at c =
    let tree = c.args.self.now.outline.now in
    let missing = sym c.block_at.ensures ∙ ap (λ o. option_copied o) c.in_default-block_at.is in
    around_missing (part_in tree c.args.self.now.node c.args.lines) tree.blocks (64 - c.loop.counter) c.loop.next c.in-Some.id _ c.in-Some.is missing c.loop.invariant

pub loop-preserved : goal.loop-preserved
loop-preserved c =
    let tree = c.args.self.now.outline.now in
    let node = c.args.self.now.node in
    let there = sym c.block_at.ensures ∙ ap (λ o. option_copied o) c.in-Some-block_at.is in
    let none = ap (option_and_then (part_within tree node c.args.lines c.in-Some.id)) there ∙ sym c.within.ensures ∙ c.in_default-within.is in
    let later = around_later (part_in tree node c.args.lines) tree.blocks (64 - c.loop.counter) (64 - (c.loop.counter + 1)) c.loop.next c.in-Some.id c.in-Some-block_at.block.now _ (omega arith) c.in-Some.is there none c.loop.invariant in
    grind (arith, later, c.parent-next.ensures)

pub returns : goal.returns
returns c =
    let tree = c.args.self.now.outline.now in
    around_last (part_in tree c.args.self.now.node c.args.lines) tree.blocks (64 - c.loop.counter) c.loop.next _ (omega arith) c.loop.invariant
