use Rattle.std.proofs.Common.{◌≡◌, true, subst}
use Rattle.kc_files.specs.PrefixForm.{is_prefix}
use Rattle.kc_files.proofs.OneReadingLaws.{read_as}
use Rattle.kc_files.proofs.prefix.Prefix.as_str.Goals as goal

pub returns-clause-readings : goal.returns-clause-readings
returns-clause-readings c = λ t text. read_as t c.args.self.now text (subst (λ p. is_prefix p ≡ true) c.self.view_is c.self.invariant)
