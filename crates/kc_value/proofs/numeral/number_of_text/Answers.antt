use Rattle.std.proofs.Common.{◌≡◌, None, Some, sym, ap, ◌∙◌, rules, List, ℕ, Bor}
use Rattle.std.specs.Option.{option_map}
use Rattle.std.specs.Prelude.{pos, neg_ℤ}
use Rattle.kc_value.specs.Numerals.{number_of_text}
use Rattle.kc_value.proofs.NumeralLemmas.{number_after_minus, number_after_hex_sign}
use Rattle.kc_value.proofs.numeral.number_of_text.Goals as goal

-- ---- after a `-`
pub returns-in_err-number : goal.returns-in_err-number
returns-in_err-number c =
    let e = sym c.after_minus.ensures ∙ ap (λ o. option_map (λ (s : Bor (List ℕ)). s.now) o) c.in-Some.is in
    let number = number_after_minus c.args.text.now c.in-Some.digits.now e in
    let none = sym c.decimal_up_to.ensures ∙ c.in_err-number.was in
    let all : number_of_text c.args.text.now ≡ None = number ∙ ap (λ o. option_map (λ n. neg_ℤ (pos n)) o) none in
    search (rules, all)

pub returns-in-Some : goal.returns-in-Some
returns-in-Some c =
    let e = sym c.after_minus.ensures ∙ ap (λ o. option_map (λ (s : Bor (List ℕ)). s.now) o) c.in-Some.is in
    let number = number_after_minus c.args.text.now c.in-Some.digits.now e in
    let some = sym c.decimal_up_to.ensures ∙ c.in_ok-number.was in
    let all : number_of_text c.args.text.now ≡ Some (neg_ℤ (pos c.in_ok-number.number)) = number ∙ ap (λ o. option_map (λ n. neg_ℤ (pos n)) o) some in
    search (rules, all, c.from.ensures)

-- ---- after a `0x`
pub returns-in_err-number-in-Some-after_hex_sign : goal.returns-in_err-number-in-Some-after_hex_sign
returns-in_err-number-in-Some-after_hex_sign c =
    let e = sym c.after_minus.ensures ∙ ap (λ o. option_map (λ (s : Bor (List ℕ)). s.now) o) c.in_default.is in
    let f = sym c.after_hex_sign.ensures ∙ ap (λ o. option_map (λ (s : Bor (List ℕ)). s.now) o) c.in-Some-after_hex_sign.is in
    let number = number_after_hex_sign c.args.text.now c.in-Some-after_hex_sign.digits.now e f in
    let none = sym c.hex_digits.ensures ∙ c.in_err-number-in-Some-after_hex_sign.was in
    let all : number_of_text c.args.text.now ≡ None = number ∙ ap (λ o. option_map pos o) none in
    search (rules, all)
