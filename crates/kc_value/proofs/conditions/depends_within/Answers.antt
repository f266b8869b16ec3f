use Rattle.std.proofs.Common.{◌-◌, ◌+◌, sym, ap, ◌∙◌, arith}
use Rattle.std.specs.Option.{option_copied}
use Rattle.kc_outline.specs.TreeValue.{blocks_from}
use Rattle.kc_value.specs.Known.{given}
use Rattle.kc_value.specs.Conditions.{blocks_depend}
use Rattle.kc_value.specs.ExprValue.{conditions_value}
use Rattle.kc_value.proofs.BlockLemmas.{least_least, blocks_from-next, blocks_from-none}
use Rattle.kc_value.proofs.ExprLemmas.{least_yes}
use Rattle.kc_value.proofs.conditions.depends_within.Goals as goal

pub loop-preserved : goal.loop-preserved
loop-preserved c =
    let t = c.args.known.now.tree in
    let a = given c.args.known.now in
    let left = c.args.limit - (c.loop.counter + 1) in
    let next = blocks_from-next t.blocks (c.args.limit - c.loop.counter) left c.loop.next c.in-Some.block.now (omega arith) (sym c.block_at.ensures ∙ ap (λ o. option_copied o) c.in-Some.is) in
    let invariant = rw next at c.loop.invariant in
    let regroup = least_least c.loop.least (conditions_value t a c.in-Some.block.now.depends) (blocks_depend t a (blocks_from t.blocks left c.in-Some.block.now.parent)) in
    grind (arith, invariant, regroup)

pub returns-in_default : goal.returns-in_default
returns-in_default c =
    let t = c.args.known.now.tree in
    let none = blocks_from-none t.blocks (c.args.limit - c.loop.counter) c.loop.next (sym c.block_at.ensures ∙ ap (λ o. option_copied o) c.in_default.is) in
    sym (least_yes c.loop.least) ∙ (rw none at c.loop.invariant)
