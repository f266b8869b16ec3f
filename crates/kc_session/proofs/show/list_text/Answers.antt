use Rattle.std.proofs.Common.{◌<◌, length, refl, ap, arith}
use Rattle.kc_outline.specs.TreeValue.{TreeValue}
use Rattle.kc_session.specs.ShowLine.{show_line_of}
use Rattle.kc_session.proofs.LineLists.{lines_more}
use Rattle.kc_session.proofs.show.list_text.Goals as goal

pub loop-number-preserved : goal.loop-number-preserved
loop-number-preserved c =
    let l = c.loop-number in
    lines_more (λ k. show_line_of c.args.solved.now.tree c.args.solved.now.user (record { 0 = k })) l.number _ _ _
    l.invariant refl c.in_ok-push_show_line.ensures

pub push_show_line-requires-clause-asked : goal.push_show_line-requires-clause-asked
push_show_line-requires-clause-asked c =
    let below : c.loop-number.number < length c.args.solved.now.tree.symbols =
    omega (arith, c.loop-number-test.true, c.symbol_count-number-end.ensures, ap (λ (t : TreeValue). length t.symbols) c.tree.ensures.tree) in
    c.requires.asked _ below

pub push_show_line-requires-clause-visibility : goal.push_show_line-requires-clause-visibility
push_show_line-requires-clause-visibility c =
    let below : c.loop-number.number < length c.args.solved.now.tree.symbols =
    omega (arith, c.loop-number-test.true, c.symbol_count-number-end.ensures, ap (λ (t : TreeValue). length t.symbols) c.tree.ensures.tree) in
    c.requires.visibility _ below
