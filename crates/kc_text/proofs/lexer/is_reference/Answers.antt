use Rattle.std.proofs.Common.{rules}
use Rattle.kc_text.proofs.TokenLemmas.{no_reference}
use Rattle.kc_text.proofs.lexer.is_reference.Goals as goal

pub returns-in_default : goal.returns-in_default
returns-in_default c = search (rules, no_reference)
