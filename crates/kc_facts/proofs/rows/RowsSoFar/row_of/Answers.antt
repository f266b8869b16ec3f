use Rattle.std.proofs.Common.{arith}
use Rattle.std.proofs.lemmas.Grind.{common_steps}
use Rattle.kc_facts.proofs.RowLemmas.{row_after}
use Rattle.kc_facts.proofs.rows.RowsSoFar.row_of.Goals as goal

pub returns-clause-row : goal.returns-clause-row
returns-clause-row c =
    let some = c.then_some-definition.ensures in
    let is = c.is_definition.ensures in
    let parent = rw (c.as_slice.ensures.value, c.block_around-around.ensures) at c.innermost_row.ensures in
    row_after c.args.tree.now c.args.self.now.rows.items c.args.self.now.found.items c.args.self.now.definitions _ c.requires
    (omega (arith, c.len.ensures)) (grind (arith, common_steps, some, is)) parent
