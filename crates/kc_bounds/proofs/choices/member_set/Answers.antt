use Rattle.kc_bounds.proofs.SelectionLaws.{member_in}
use Rattle.kc_bounds.proofs.choices.member_set.Goals as goal

pub returns : goal.returns
returns c = λ w u.
    member_in c.args.bounds.now.tree w (c.tree.ensures.bounds.solved w) c.args.choice c.args.member c.has_more.result
    (λ on. c.has_more.ensures _ (c.node.ensures w u) on)
