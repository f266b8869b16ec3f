use Rattle.std.proofs.Common.{take, sym, subst, arith}
use Rattle.std.specs.List.{Contains}
use Rattle.kc_tree.specs.declared.node.Node.TheVariants.{Vis}
use Rattle.kc_value.specs.Kept.{AreKept, KeptValue}
use Rattle.kc_value.proofs.AskedLemmas.{all_first, kept_given, next_inside, next_kept}
use Rattle.kc_value.proofs.fresh.kept_for.Goals as goal

pub loop-node-init : goal.loop-node-init
loop-node-init c = record {
  right = subst (λ (k : KeptValue). AreKept c.args.tree.now c.args.user.now k.values) (sym c.in_ok-kept.ensures.nothing) (c.in_ok-kept.ensures.right c.args.user.now);
  done = λ n asked. absurd (omega (arith, asked.1));
}

pub fill-requires-clause-inside : goal.fill-requires-clause-inside
fill-requires-clause-inside c = next_inside c.args.tree.now c.args.nodes.now c.loop-node.node-index c.loop-node-test.true (Vis (record { 0 = 0 })) c.requires.nodes

pub fill-requires-clause-kept : goal.fill-requires-clause-kept
fill-requires-clause-kept c = c.loop-node.invariant.right

pub loop-node-preserved : goal.loop-node-preserved
loop-node-preserved c = record {
  right = c.fill.ensures.kept;
  done = next_kept c.args.tree.now c.args.nodes.now c.loop-node.node-index c.loop-node-test.true (Vis (record { 0 = 0 })) c.requires.nodes c.loop-node.kept c.fill.new.self
      c.fill.ensures.fills c.in_ok-fill.ensures.done c.loop-node.invariant.done;
}

pub returns-clause-values : goal.returns-clause-values
returns-clause-values c n asked =
    let t = c.args.tree.now in
    let nodes = c.args.nodes.now in
    let first : Contains (take c.loop-node.node-index nodes) n = subst (λ ns. Contains ns n) (sym (all_first t nodes c.loop-node.node-index c.loop-node-test.false)) asked in
    kept_given t c.args.user.now c.loop-node.kept.values c.loop-node.invariant.right n (c.requires.nodes n asked) (c.loop-node.invariant.done n first)

pub returns-in_err-kept-clause-solved : goal.returns-in_err-kept-clause-solved
returns-in_err-kept-clause-solved c = c.new.ensures.solved

pub returns-in_err-fill-clause-solved : goal.returns-in_err-fill-clause-solved
returns-in_err-fill-clause-solved c = c.new.ensures.solved

pub returns-clause-solved : goal.returns-clause-solved
returns-clause-solved c = c.new.ensures.solved
