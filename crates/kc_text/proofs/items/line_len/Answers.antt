use Rattle.std.proofs.Common.{◌≡◌, Bool, true, false, length, subst, sym, refl, arith}
use Rattle.std.proofs.lemmas.List.Sums.{position_or_len_is}
use Rattle.memchr.specs.Find.{IsFirstByte, is_byte}
use Rattle.kc_text.specs.Bytes.{is_feed}
use Rattle.kc_text.proofs.items.line_len.Goals as goal

is_not : (b : Bool) → ¬ (b ≡ true) → b ≡ false
is_not true = λ no. absurd (no refl)
is_not false = λ no. refl

pub returns-in-Some : goal.returns-in-Some
returns-in-Some c =
    let text = c.args.text.now in
    let found = subst (IsFirstByte (is_byte 10) text) c.in-Some.is (subst (λ bytes. IsFirstByte (is_byte 10) bytes c.memchr.result) c.as_bytes.ensures.value c.memchr.ensures) in
    sym (position_or_len_is is_feed text c.in-Some.len 0 (omega (arith, found.0.high)) (λ k h. is_not _ (found.0.before k (omega arith) h)) (λ h. found.1))

pub returns-in-None : goal.returns-in-None
returns-in-None c =
    let text = c.args.text.now in
    let found = subst (IsFirstByte (is_byte 10) text) c.in-None.is (subst (λ bytes. IsFirstByte (is_byte 10) bytes c.memchr.result) c.as_bytes.ensures.value c.memchr.ensures) in
    sym (position_or_len_is is_feed text (length text) 0 (omega arith) (λ k h. is_not _ (found k (omega arith) h)) (λ h. absurd (omega (arith, h))))
