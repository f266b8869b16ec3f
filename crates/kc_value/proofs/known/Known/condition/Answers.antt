use Rattle.std.proofs.Common.{rules}
use Rattle.kc_value.proofs.KnownLaws.{level_right}
use Rattle.kc_value.proofs.known.Known.condition.Goals as goal

pub returns : goal.returns
returns c =
    let right = level_right c.self.inside.tree.now c.self.inside.values.now (c.self.invariant.1 c.if-not-self.false) c.args.cell in
    search (rules, right)
