use Rattle.std.proofs.Common.{rules, tests}
use Rattle.kc_text.proofs.HelpWords.{no_help}
use Rattle.kc_text.proofs.items.start_of.Goals as goal

pub returns-clause-other : goal.returns-clause-other
returns-clause-other c = λ _. no_help c.args.line.now (search (rules, tests))
