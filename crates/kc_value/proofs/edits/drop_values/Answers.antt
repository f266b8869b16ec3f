use Rattle.std.proofs.Common.{arith}
use Rattle.kc_value.specs.Changes.{new_user}
use Rattle.kc_value.proofs.EditLemmas.{value_next}
use Rattle.kc_value.proofs.edits.drop_values.Goals as goal

pub loop-number-preserved : goal.loop-number-preserved
loop-number-preserved c =
    let t = c.args.tree.now in
    let now = c.loop-number in
    record {
      drops = value_next t c.args.user.now (new_user t c.args.next.now) now.number c.is_value_renewed-changes.result c.number.result c.args.values.now now.values c.drop_if.new.values
          c.args.list.now.items now.list.items c.drop_if.new.list.items c.is_value_renewed-changes.ensures c.number.ensures.number now.invariant.drops c.drop_if.ensures.drops;
      capacity = omega (arith, now.invariant.capacity, c.drop_if.ensures.capacity);
    }
