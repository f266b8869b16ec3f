use Rattle.kc_tree.proofs.OneTree.{linked}
use Rattle.kc_tree.proofs.tree.Tree.parse_seeded.Goals as goal

pub returns-clause-only : goal.returns-clause-only
returns-clause-only c =
    let outline = c.in_ok-outline.outline in
    linked c.args.lines.now outline c.in_ok-outline.ensures.only c.in_ok-outline.ensures.exact c.link.result
    c.link.ensures.tree c.link.ensures.faultless c.link.ensures.loopless
