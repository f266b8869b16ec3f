use Rattle.std.proofs.Common.{sym, arith, None}
use Rattle.std.proofs.lemmas.Str.Pattern.{strip_prefix_char}
use Rattle.kc_files.proofs.UnquotedSteps.{not_quoted}
use Rattle.kc_files.proofs.unquoting.unquoted.Goals as goal

pub returns-in-None : goal.returns-in-None
returns-in-None c = sym (not_quoted c.args.value.now (strip_prefix_char 34 c.args.value.now None c.in-None.ensures.cases (omega arith)))
