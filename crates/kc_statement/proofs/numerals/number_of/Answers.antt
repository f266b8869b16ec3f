use Rattle.std.proofs.Common.{◌∙◌, ◌<◌, length, ap, rules, arith, tests}
use Rattle.kc_statement.specs.Numerals.{up_to}
use Rattle.kc_statement.proofs.NumeralLaws.{read_digits}
use Rattle.kc_statement.proofs.numerals.number_of.Goals as goal

pub returns : goal.returns
returns c =
    let ds = c.without_zeros-digits.result.now in
    let radix = c.args.radix in
    let some : 0 < length ds = search (rules, tests, arith) in
    let read = read_digits radix ds c.from_str_radix.result c.requires.radix.1 (c.without_zeros-digits.ensures.digits radix c.requires.digits) some c.from_str_radix.ensures.value in
    c.ok.ensures.value ∙ read ∙ ap (up_to 18446744073709551615) (c.without_zeros-digits.ensures.value radix)
