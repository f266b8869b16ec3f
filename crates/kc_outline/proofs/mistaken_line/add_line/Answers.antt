use Rattle.std.proofs.Common.{None}
use Rattle.kc_outline.proofs.mistaken_line.add_line.Goals as goal

pub returns-then-branch-clause-says : goal.returns-then-branch-clause-says
returns-then-branch-clause-says c =
    let added = c.in_ok-add_attribute.ensures.added c.if-branch.true None None in
    (added.statement, added.says)
