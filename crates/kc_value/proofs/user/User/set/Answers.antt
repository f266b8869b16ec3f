use Rattle.std.proofs.Common.{rules}
use Rattle.kc_value.proofs.UserLemmas.{value_kept}
use Rattle.kc_value.proofs.user.User.set.Goals as goal

pub returns-clause-user : goal.returns-clause-user
returns-clause-user c = λ t user h. value_kept t c.args.self.now _ c.args.symbol c.args.value (search rules) user h
