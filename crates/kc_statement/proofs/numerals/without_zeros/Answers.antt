use Rattle.std.proofs.Common.{◌∙◌, length, ap, subst, sym, refl}
use Rattle.std.specs.Str.Parse.{AllDigits, digits_value}
use Rattle.std.specs.Str.Pattern.{GetsRange}
use Rattle.kc_statement.proofs.ZeroLaws.{value_kept, digits_kept}
use Rattle.kc_statement.proofs.numerals.without_zeros.Goals as goal

pub returns-clause-value : goal.returns-clause-value
returns-clause-value c = λ radix. let bs = c.args.digits.now in
    ap (λ r. digits_value radix r.now) c.unwrap_or.ensures
    ∙ value_kept bs c.get.result c.args.digits refl (subst (λ n. GetsRange bs n (length bs) c.get.result) c.zeros_len.ensures c.get.ensures.cases) radix

pub returns-clause-digits : goal.returns-clause-digits
returns-clause-digits c = λ radix d. let bs = c.args.digits.now in
    subst (λ r. AllDigits radix r.now) (sym c.unwrap_or.ensures)
    (digits_kept bs c.get.result c.args.digits refl (subst (λ n. GetsRange bs n (length bs) c.get.result) c.zeros_len.ensures c.get.ensures.cases) radix d)
