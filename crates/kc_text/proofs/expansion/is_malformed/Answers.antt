use Rattle.std.proofs.Common.{rules}
use Rattle.kc_text.proofs.StopLaws.{bytes_sound}
use Rattle.kc_text.proofs.expansion.is_malformed.Goals as goal

pub returns-in_default : goal.returns-in_default
returns-in_default c = search (rules, bytes_sound)
