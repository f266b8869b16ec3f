use Rattle.std.proofs.Common.{◌+◌, ◌<◌, ◌∷◌, [], subst, arith}
use Rattle.kc_tree.specs.declared.node.Node.{Node}
use Rattle.kc_tree.specs.Nodes.{node_at}
use Rattle.kc_value.specs.Kept.{Fills, IsKept}
use Rattle.kc_value.proofs.NumberedSteps.{number_done, number_filled, numbers_done}
use Rattle.kc_value.proofs.SolutionLaws.{one_solution}
use Rattle.kc_value.proofs.kept_values.KeptValues.fill_numbers.Goals as goal

pub returns-in_err-fill-clause-fills : goal.returns-in_err-fill-clause-fills
returns-in_err-fill-clause-fills c =
    let t = c.args.tree.now in
    let one : Fills t (node_at t c.loop-number.number ∷ []) c.loop-number.self c.fill.new.self =
    subst (λ (n : Node). Fills t (n ∷ []) c.loop-number.self c.fill.new.self) c.node.ensures.node c.fill.ensures.fills
    in
    number_filled t c.args.first c.args.count c.requires.inside c.loop-number.number c.loop-number.invariant.from (omega (arith, c.loop-number-test.true, c.min-end.ensures)) c.args.self.now c.loop-number.self c.fill.new.self one
    c.loop-number.invariant.fills

pub loop-number-preserved : goal.loop-number-preserved
loop-number-preserved c =
    let t = c.args.tree.now in
    let first = c.args.first in
    let count = c.args.count in
    let number = c.loop-number.number in
    let before = c.loop-number.self in
    let after = c.fill.new.self in
    let from = c.loop-number.invariant.from in
    let below : number < first + count = omega (arith, c.loop-number-test.true, c.min-end.ensures) in
    let one : Fills t (node_at t number ∷ []) before after = subst (λ (n : Node). Fills t (n ∷ []) before after) c.node.ensures.node c.fill.ensures.fills in
    let here : IsKept t after.values (node_at t number) = subst (λ (n : Node). IsKept t after.values n) c.node.ensures.node c.in_ok-fill.ensures.done in
    record {
      kept = c.fill.ensures.kept;
      fills = number_filled t first count c.requires.inside number from below c.args.self.now before after one c.loop-number.invariant.fills;
      from = omega (arith, from);
      done = number_done t first count c.requires.inside number from below c.args.self.now before after one c.loop-number.invariant.done here;
    }

pub returns-clause-done : goal.returns-clause-done
returns-clause-done c =
    numbers_done c.args.tree.now c.args.first c.args.count c.requires.inside c.loop-number.number c.loop-number.self.values (omega (arith, c.loop-number-test.false, c.min-end.ensures, c.node_count.ensures.count, c.requires.inside)) c.loop-number.invariant.done

pub returns-in_err-fill-clause-solved : goal.returns-in_err-fill-clause-solved
returns-in_err-fill-clause-solved c = one_solution c.args.tree.now c.args.user.now c.node_count.ensures.accepted

pub returns-clause-solved : goal.returns-clause-solved
returns-clause-solved c = one_solution c.args.tree.now c.args.user.now c.node_count.ensures.accepted
