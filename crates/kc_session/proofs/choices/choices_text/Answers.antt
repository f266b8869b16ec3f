use Rattle.std.proofs.Common.{◌<◌, length, ap, ◌∙◌, arith}
use Rattle.kc_outline.specs.TreeValue.{TreeValue}
use Rattle.kc_session.specs.ChoiceLine.{choice_line_of}
use Rattle.kc_session.proofs.LineLists.{lines_more}
use Rattle.kc_session.proofs.choices.choices_text.Goals as goal

pub loop-number-preserved : goal.loop-number-preserved
loop-number-preserved c =
    let l = c.loop-number in
    lines_more (λ k. choice_line_of c.args.solved.now.tree c.args.solved.now.user (record { 0 = k })) l.number _ _ _
    l.invariant (c.as_str.ensures.value ∙ c.in_ok-line.ensures) c.in_ok-push_str.ensures.bytes

pub choice_line-requires-clause-asked : goal.choice_line-requires-clause-asked
choice_line-requires-clause-asked c =
    let below : c.loop-number.number < length c.args.solved.now.tree.choices =
    omega (arith, c.loop-number-test.true, c.choice_count-number-end.ensures, ap (λ (t : TreeValue). length t.choices) c.tree.ensures.tree) in
    c.requires.asked _ below

pub choice_line-requires-clause-mode : goal.choice_line-requires-clause-mode
choice_line-requires-clause-mode c =
    let below : c.loop-number.number < length c.args.solved.now.tree.choices =
    omega (arith, c.loop-number-test.true, c.choice_count-number-end.ensures, ap (λ (t : TreeValue). length t.choices) c.tree.ensures.tree) in
    c.requires.modes _ below
