use Rattle.std.proofs.Common.{◌-◌, ◌+◌, sym, ap, ◌∙◌, arith}
use Rattle.std.specs.Option.{option_copied}
use Rattle.kc_facts.proofs.RowLemmas.{first_end, step_end, step_missing, step_found, step_later}
use Rattle.kc_facts.proofs.rows.innermost_row.Goals as goal

pub returns-in_default : goal.returns-in_default
returns-in_default c = step_end c.args.found.now c.args.tree.now.blocks (64 - c.loop.counter) c.loop.next _ c.in_default.is c.loop.invariant

pub returns-in_default-block_at : goal.returns-in_default-block_at
returns-in_default-block_at c =
    let missing = sym c.block_at.ensures ∙ ap (λ o. option_copied o) c.in_default-block_at.is in
    step_missing c.args.found.now c.args.tree.now.blocks (64 - c.loop.counter) c.loop.next c.in-Some.id _ c.in-Some.is missing c.loop.invariant

pub returns-in-Some-found_at : goal.returns-in-Some-found_at
returns-in-Some-found_at c =
    let there = sym c.block_at.ensures ∙ ap (λ o. option_copied o) c.in-Some-block_at.is in
    let row = sym c.found_at.ensures ∙ c.in-Some-found_at.is in
    step_found c.args.found.now c.args.tree.now.blocks (64 - c.loop.counter) (64 - (c.loop.counter + 1)) c.loop.next c.in-Some.id c.in-Some-block_at.block.now c.in-Some-found_at.row _ (omega arith) c.in-Some.is there row c.loop.invariant

pub loop-preserved : goal.loop-preserved
loop-preserved c =
    let there = sym c.block_at.ensures ∙ ap (λ o. option_copied o) c.in-Some-block_at.is in
    let none = sym c.found_at.ensures ∙ c.in_default-found_at.is in
    let later = step_later c.args.found.now c.args.tree.now.blocks (64 - c.loop.counter) (64 - (c.loop.counter + 1)) c.loop.next c.in-Some.id c.in-Some-block_at.block.now _ (omega arith) c.in-Some.is there none c.loop.invariant in
    grind (arith, later, c.parent-next.ensures)

pub returns : goal.returns
returns c = first_end c.args.found.now c.args.tree.now.blocks (64 - c.loop.counter) c.loop.next _ (omega arith) c.loop.invariant
