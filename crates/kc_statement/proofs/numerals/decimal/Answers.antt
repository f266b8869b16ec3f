use Rattle.std.proofs.Common.{◌≡◌, ◌&&◌, true, length}
use Rattle.std.specs.Prelude.{nat_le}
use Rattle.std.specs.List.{list_all}
use Rattle.std.specs.Char.{is_ascii_digit}
use Rattle.kc_statement.proofs.NumeralLaws.{digit-is, all_digits, some_digits}
use Rattle.kc_statement.proofs.numerals.decimal.Goals as goal

pub number_of-requires-clause-digits : goal.number_of-requires-clause-digits
number_of-requires-clause-digits c =
    let bs = c.args.text.now in
    let is : (list_all is_ascii_digit bs && nat_le 1 (length bs)) ≡ true = cc in
    all_digits 10 is_ascii_digit digit-is bs (some_digits is_ascii_digit bs is).0
