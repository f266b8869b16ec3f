use Rattle.kc_tree.specs.Nodes.{all_nodes}
use Rattle.kc_value.proofs.FillLaws.{fills_again}
use Rattle.kc_value.proofs.OrderSteps.{all_begun, all_done, next_cell, next_done, next_ready, none_done}
use Rattle.kc_value.proofs.SolutionLaws.{one_solution}
use Rattle.std.proofs.Common.{refl}
use Rattle.kc_value.proofs.kept_values.KeptValues.fill_all.Goals as goal

pub loop-number-init : goal.loop-number-init
loop-number-init c = record {
  kept = c.requires.kept;
  fills = all_begun c.args.tree.now c.args.self.now;
  done = none_done c.cell_order-number-items.result.now c.args.self.now.values;
}

pub fill_next-requires-clause-inside : goal.fill_next-requires-clause-inside
fill_next-requires-clause-inside c =
    let from = c.cell_order-number-items in
    next_cell c.args.tree.now from.ensures.laws from.result.now from.ensures.order c.loop-number.number-index c.loop-number-test.true

pub fill_next-requires-clause-kept : goal.fill_next-requires-clause-kept
fill_next-requires-clause-kept c = c.loop-number.invariant.kept

pub fill_next-requires-clause-ready : goal.fill_next-requires-clause-ready
fill_next-requires-clause-ready c =
    let from = c.cell_order-number-items in
    next_ready c.args.tree.now from.ensures.laws from.result.now from.ensures.order c.loop-number.number-index c.loop-number-test.true c.loop-number.self.values c.loop-number.invariant.done

pub returns-in_err-fill_next-clause-fills : goal.returns-in_err-fill_next-clause-fills
returns-in_err-fill_next-clause-fills c =
    let t = c.args.tree.now in
    fills_again t t (all_nodes t) (all_nodes t) c.args.self.now c.loop-number.self c.fill_next.new.self refl (λ n listed. listed) c.loop-number.invariant.fills c.fill_next.ensures.fills

pub loop-number-preserved : goal.loop-number-preserved
loop-number-preserved c =
    let t = c.args.tree.now in
    let from = c.cell_order-number-items in
    let now = c.loop-number.invariant in
    record {
      kept = c.fill_next.ensures.kept;
      fills = fills_again t t (all_nodes t) (all_nodes t) c.args.self.now c.loop-number.self c.fill_next.new.self refl (λ n listed. listed) now.fills c.fill_next.ensures.fills;
      done = next_done t from.ensures.laws from.result.now from.ensures.order c.loop-number.number-index c.loop-number-test.true c.loop-number.self.values c.fill_next.new.self.values now.done
          c.fill_next.ensures.stay c.in_ok-fill_next.ensures.done;
    }

pub returns-clause-kept : goal.returns-clause-kept
returns-clause-kept c = c.loop-number.invariant.kept

pub returns-clause-fills : goal.returns-clause-fills
returns-clause-fills c = c.loop-number.invariant.fills

pub returns-clause-done : goal.returns-clause-done
returns-clause-done c =
    let from = c.cell_order-number-items in
    all_done c.args.tree.now from.ensures.laws from.result.now from.ensures.order c.loop-number.number-index c.loop-number.self.values c.loop-number-test.false c.loop-number.invariant.done

pub returns-in_err-fill_next-clause-solved : goal.returns-in_err-fill_next-clause-solved
returns-in_err-fill_next-clause-solved c = one_solution c.args.tree.now c.args.user.now c.cell_order-number-items.ensures.accepted

pub returns-clause-solved : goal.returns-clause-solved
returns-clause-solved c = one_solution c.args.tree.now c.args.user.now c.cell_order-number-items.ensures.accepted
