use Rattle.std.proofs.Common.{◌≡◌, ◌∙◌, ℕ, Bool, true, false, not, ltb, length, Some, None, cond, sym, refl, arith, rules, tests}
use Rattle.std.proofs.lemmas.Bool.{ltb-false}
use Rattle.std.proofs.lemmas.Iterator.{YieldsList-from_slice}
use Rattle.std.proofs.lemmas.Iterator.Search.{position_from_yields_List}
use Rattle.std.proofs.lemmas.List.Sums.{prefix_len-le-length}
use Rattle.std.proofs.lemmas.Option.{cond_some, none-some}
use Rattle.kc_statement.specs.Zeros.{is_no_zero, zeros_len}
use Rattle.kc_statement.proofs.numerals.zeros_len.Goals as goal

none_cond : (b : Bool) (n : ℕ) → cond b (Some n) None ≡ None → b ≡ false
none_cond true n e = absurd (none-some n (sym e))
none_cond false n e = refl

pub returns-in-Some : goal.returns-in-Some
returns-in-Some c =
    let digits = c.args.digits.now in
    let n : ℕ = zeros_len digits in
    let found : c.position.result ≡ cond (ltb n (length digits)) (Some n) None = position_from_yields_List is_no_zero _ _ c.position.result c.position.ensures.ran (YieldsList-from_slice digits cc) (λ x b q k. search (rules, tests)) in
    sym (cond_some (ltb n (length digits)) n c.in-Some.len (sym found ∙ c.in-Some.is)).1

pub returns-in-None : goal.returns-in-None
returns-in-None c =
    let digits = c.args.digits.now in
    let n : ℕ = zeros_len digits in
    let found : c.position.result ≡ cond (ltb n (length digits)) (Some n) None = position_from_yields_List is_no_zero _ _ c.position.result c.position.ensures.ran (YieldsList-from_slice digits cc) (λ x b q k. search (rules, tests)) in
    omega (arith, ltb-false n (length digits) (none_cond (ltb n (length digits)) n (sym found ∙ c.in-None.is)), prefix_len-le-length (λ b. not (is_no_zero b)) digits)
