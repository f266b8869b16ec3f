use Rattle.std.proofs.Common.{◌≡◌, ℕ, Bool, true, false, not, ◌||◌, ◌==◌, length, slice_index, subst, sym, ap, ◌∙◌, refl, arith}
use Rattle.std.proofs.lemmas.List.Sums.{prefix_len_is}
use Rattle.memchr.specs.Find.{IsFirstByte, is_byte3}
use Rattle.kc_text.specs.Lexing.{is_plain}
use Rattle.kc_text.proofs.quotes.plain_len.Goals as goal

is_not : (b : Bool) → ¬ (b ≡ true) → not b ≡ true
is_not true = λ no. absurd (no refl)
is_not false = λ no. refl

any_of_three : (a b c : Bool) → (a || (b || c)) ≡ ((a || b) || c)
any_of_three true b c = refl
any_of_three false b c = refl

plain_is : (q b : ℕ) → is_plain q b ≡ not (is_byte3 q 92 36 b)
plain_is q b = ap not (any_of_three (b == q) (b == 92) (b == 36))

pub returns-in-Some-clause-count : goal.returns-in-Some-clause-count
returns-in-Some-clause-count c =
    let text = c.args.text.now in
    let quote = c.args.quote in
    let first = IsFirstByte (is_byte3 quote 92 36) in
    let found = subst (first text) c.in-Some.is (subst (λ bytes. first bytes c.memchr3.result) c.as_bytes.ensures.value c.memchr3.ensures) in
    sym (prefix_len_is (is_plain quote) text c.in-Some.len 0 (omega (arith, found.0.high)) (λ k h. plain_is quote (slice_index text k) ∙ is_not _ (found.0.before k (omega arith) h)) (λ h. plain_is quote (slice_index text c.in-Some.len) ∙ ap not found.1))

pub returns-in-None-clause-count : goal.returns-in-None-clause-count
returns-in-None-clause-count c =
    let text = c.args.text.now in
    let quote = c.args.quote in
    let first = IsFirstByte (is_byte3 quote 92 36) in
    let found = subst (first text) c.in-None.is (subst (λ bytes. first bytes c.memchr3.result) c.as_bytes.ensures.value c.memchr3.ensures) in
    sym (prefix_len_is (is_plain quote) text (length text) 0 (omega arith) (λ k h. plain_is quote (slice_index text k) ∙ is_not _ (found k (omega arith) h)) (λ h. absurd (omega (arith, h))))
