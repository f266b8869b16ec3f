use Rattle.std.proofs.Common.{arith}
use Rattle.std.proofs.lemmas.Str.Pattern.{strip_prefix_char}
use Rattle.kc_statement.proofs.NumeralLaws.{after_byte}
use Rattle.kc_statement.proofs.numerals.after_minus.Goals as goal

pub returns : goal.returns
returns c =
    let bs = c.args.text.now in
    after_byte 45 bs c.strip_prefix.result (strip_prefix_char 45 bs c.strip_prefix.result c.strip_prefix.ensures.cases (omega arith))
