-- Where a text may be cut: behind a run of ASCII bytes, and on both sides of an ASCII byte.
use Rattle.std.proofs.Common.{◌≡◌, ℕ, ◌+◌, ◌-◌, ◌<◌, ◌≤◌, Bool, true, List, length, IsUtf8, subst, ⊎_elim, arith, sym, ap, ◌∙◌, get_or, reverse}
use Rattle.std.specs.List.{prefix_len, suffix_len}
use Rattle.std.specs.Str.{IsCharBoundary}
use Rattle.std.proofs.lemmas.Bool.{cases_eq}
use Rattle.std.proofs.lemmas.Bool.Decides.{nat_tests}
use Rattle.kc_text.specs.Bytes.{is_blank, is_word, is_name}
use Rattle.std.proofs.lemmas.List.Sums.{prefix_len-le-length, prefix_len_passes, suffix_len-le-length}
use Rattle.std.proofs.lemmas.List.{get_or-reverse}
use Rattle.std.proofs.lemmas.Str.{IsCharBoundary-start, IsCharBoundary-after_ascii, IsCharBoundary-before_ascii, IsCharBoundary-end}

-- behind the longest run of bytes that pass a test which only ASCII bytes pass
pub boundary_after_run : (p : ℕ → Bool) (ascii : (b : ℕ) → p b ≡ true → b < 128) (bs : List ℕ) → IsUtf8 bs → IsCharBoundary bs (prefix_len p bs)
boundary_after_run p ascii bs u =
    let n : ℕ = prefix_len p bs in
    let within : n ≤ length bs = prefix_len-le-length p bs in
    ⊎_elim
    (λ none. subst (IsCharBoundary bs) (sym none) (IsCharBoundary-start bs u))
    (λ some.
    let last : n - 1 < n = omega (arith, some) in
    let before : n - 1 + 1 ≡ n = omega (arith, some) in
    subst (IsCharBoundary bs) before
    (IsCharBoundary-after_ascii bs (n - 1) u (omega arith) (ascii _ (prefix_len_passes p bs (n - 1) 0 last))))
    (cases_eq n 0)

-- before the longest run at the end of bytes that pass a test which only ASCII bytes pass
pub boundary_before_run : (p : ℕ → Bool) (ascii : (b : ℕ) → p b ≡ true → b < 128) (bs : List ℕ) → IsUtf8 bs → IsCharBoundary bs (length bs - suffix_len p bs)
boundary_before_run p ascii bs u =
    let n : ℕ = suffix_len p bs in
    let within : n ≤ length bs = suffix_len-le-length p bs in
    ⊎_elim
    (λ none. let all : length bs ≡ length bs - n = omega (arith, none) in subst (IsCharBoundary bs) all (IsCharBoundary-end bs))
    (λ some.
    let last : n - 1 < n = omega (arith, some) in
    let place : length bs - 1 - (n - 1) ≡ length bs - n = omega (arith, some, within) in
    let same : get_or bs (length bs - n) 0 ≡ get_or (reverse bs) (n - 1) 0 = sym (get_or-reverse bs (n - 1) 0 (omega (arith, some, within)) ∙ ap (λ i. get_or bs i 0) place) in
    let byte : get_or bs (length bs - n) 0 < 128 = subst (λ b. b < 128) (sym same) (ascii _ (prefix_len_passes p (reverse bs) (n - 1) 0 last)) in
    IsCharBoundary-before_ascii bs (length bs - n) (omega (arith, some, within)) byte)
    (cases_eq n 0)

-- each byte of these classes is ASCII
pub blank_is_ascii : (b : ℕ) → is_blank b ≡ true → b < 128
blank_is_ascii b e = grind (arith, nat_tests)

pub word_is_ascii : (b : ℕ) → is_word b ≡ true → b < 128
word_is_ascii b e = grind (arith, nat_tests)

pub name_is_ascii : (b : ℕ) → is_name b ≡ true → b < 128
name_is_ascii b e = grind (arith, nat_tests)
