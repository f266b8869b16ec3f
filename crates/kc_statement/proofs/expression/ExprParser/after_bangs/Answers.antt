use Rattle.std.proofs.Common.{◌∙◌, arith}
use Rattle.kc_statement.proofs.FrontLaws.{run_longer}
use Rattle.kc_statement.proofs.expression.ExprParser.after_bangs.Goals as goal

pub loop-next-preserved : goal.loop-next-preserved
loop-next-preserved c = record {
  from = omega (arith, c.in-Some.ensures.next);
  run = c.loop-next.invariant.run ∙ run_longer c.args.start c.loop-next.position c.in-Some.next c.loop-next.invariant.from c.in-Some.ensures.next c.in-Some.ensures.front;
}
