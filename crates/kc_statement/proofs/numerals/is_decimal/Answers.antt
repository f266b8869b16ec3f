use Rattle.std.proofs.Common.{rules, tests, ◌≡◌, ◌∙◌, true, refl, sym}
use Rattle.std.proofs.lemmas.Iterator.{YieldsList-from_slice}
use Rattle.std.proofs.lemmas.Iterator.Search.{all_from_yields_List}
use Rattle.std.specs.Char.{is_ascii_digit}
use Rattle.std.specs.List.{list_all}
use Rattle.kc_statement.proofs.numerals.is_decimal.Goals as goal

pub returns-then-are_digits : goal.returns-then-are_digits
returns-then-are_digits c =
    let bs = c.args.text.now in
    let are : list_all is_ascii_digit bs ≡ true = sym (all_from_yields_List is_ascii_digit _ _ c.all-are_digits.result c.all-are_digits.ensures.ran (YieldsList-from_slice bs cc) (λ x b q k. search (rules, tests))) ∙ c.if-are_digits.true in
    rw are refl
