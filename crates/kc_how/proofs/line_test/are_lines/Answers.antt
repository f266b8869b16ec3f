use Rattle.std.proofs.Common.{refl, arith}
use Rattle.kc_how.specs.Answer.{IsLine}
use Rattle.kc_how.proofs.TakenLists.{one_more, all_of}
use Rattle.kc_how.proofs.line_test.are_lines.Goals as goal

pub loop-line-preserved : goal.loop-line-preserved
loop-line-preserved c =
    one_more (IsLine c.args.tree.now) c.args.lines.now c.loop-line.line-index c.line-item.result (omega arith) c.line-item.is
    c.loop-line.invariant (c.is_line.ensures.0 c.if-not-is_line.false)

pub returns : goal.returns
returns c =
    (λ _. all_of (IsLine c.args.tree.now) c.args.lines.now c.loop-line.line-index (omega arith) c.loop-line.invariant, λ _. refl)
