use Rattle.std.proofs.Common.{rules}
use Rattle.kc_value.proofs.BoundsLemmas.{small}
use Rattle.kc_value.proofs.bounds.number_or_zero.Goals as goal

pub returns-clause-small : goal.returns-clause-small
returns-clause-small c =
    let is = small c.args.kind c.args.text.now in
    search (rules, is)
