use Rattle.std.proofs.Common.{◌≡◌, Bool, true, false, not, length, subst, sym, ap, refl, arith}
use Rattle.std.proofs.lemmas.List.Sums.{prefix_len_is}
use Rattle.memchr.specs.Find.{IsFirstByte, is_byte}
use Rattle.kc_text.specs.References.{is_no_dollar}
use Rattle.kc_text.proofs.expansion.plain_len.Goals as goal

is_not : (b : Bool) → ¬ (b ≡ true) → not b ≡ true
is_not true = λ no. absurd (no refl)
is_not false = λ no. refl

pub returns-in-Some-clause-count : goal.returns-in-Some-clause-count
returns-in-Some-clause-count c =
    let text = c.args.text.now in
    let first = IsFirstByte (is_byte 36) in
    let found = subst (first text) c.in-Some.is (subst (λ bytes. first bytes c.memchr.result) c.as_bytes.ensures.value c.memchr.ensures) in
    sym (prefix_len_is is_no_dollar text c.in-Some.len 0 (omega (arith, found.0.high)) (λ k h. is_not _ (found.0.before k (omega arith) h)) (λ h. ap not found.1))

pub returns-in-None-clause-count : goal.returns-in-None-clause-count
returns-in-None-clause-count c =
    let text = c.args.text.now in
    let first = IsFirstByte (is_byte 36) in
    let found = subst (first text) c.in-None.is (subst (λ bytes. first bytes c.memchr.result) c.as_bytes.ensures.value c.memchr.ensures) in
    sym (prefix_len_is is_no_dollar text (length text) 0 (omega arith) (λ k h. is_not _ (found k (omega arith) h)) (λ h. absurd (omega (arith, h))))
