-- Digits spell the same number without the zeros at their front.
use Rattle.std.proofs.Common.{◌≡◌, ◌∙◌, ◌+◌, ◌-◌, ◌*◌, ◌==◌, ℕ, zero, suc, Bool, true, false, List, [], ◌∷◌, Option, Some, None, length, drop, unwrap_or, refl, sym, ap, subst, rules, arith, Bor}
use Rattle.std.specs.Char.{digit_value}
use Rattle.std.specs.List.{slice_range}
use Rattle.std.specs.Str.Parse.{AllDigits, digits_value, digits_value_after}
use Rattle.std.specs.Str.Pattern.{GetsRange}
use Rattle.std.proofs.lemmas.Bool.Decides.{nat_tests}
use Rattle.std.proofs.lemmas.List.{take_all, length-drop}
use Rattle.kc_statement.specs.Zeros.{zeros_len}

zeros_value : (radix : ℕ) (bs : List ℕ) → digits_value radix (drop (zeros_len bs) bs) ≡ digits_value radix bs
zeros_value radix [] = refl
zeros_value radix (b ∷ bs) = go (zeros_value radix bs) (b == 48) refl
  where
    go : digits_value radix (drop (zeros_len bs) bs) ≡ digits_value radix bs → (t : Bool) → (b == 48) ≡ t
        → digits_value radix (drop (zeros_len (b ∷ bs)) (b ∷ bs)) ≡ digits_value radix (b ∷ bs)
    go h true e =
        let is_zero : b ≡ 48 = grind (arith, nat_tests) in
        let nothing : digit_value 48 ≡ 0 = refl in
        let front : 0 * radix + digit_value 48 ≡ 0 = omega (arith, nothing) in
        let n : zeros_len (b ∷ bs) ≡ 1 + zeros_len bs = rw e refl in
        let next : 1 + zeros_len bs ≡ suc (zeros_len bs) = omega arith in
        ap (λ k. digits_value radix (drop k (b ∷ bs))) n ∙ ap (λ k. digits_value radix (drop k (b ∷ bs))) next ∙ h ∙ ap (λ m. digits_value_after radix m bs) (sym front)
        ∙ ap (λ c. digits_value radix (c ∷ bs)) (sym is_zero)
    go h false e =
        let n : zeros_len (b ∷ bs) ≡ 0 = rw e refl in
        ap (λ k. digits_value radix (drop k (b ∷ bs))) n

digits_dropped : (radix n : ℕ) (bs : List ℕ) → AllDigits radix bs → AllDigits radix (drop n bs)
digits_dropped radix zero bs h = h
digits_dropped radix (suc n) [] h = h
digits_dropped radix (suc n) (b ∷ bs) h = digits_dropped radix n bs h.1

-- `get` from there on, or all where it gives nothing
gets : (P : List ℕ → Type 0) (bs : List ℕ) (n : ℕ) (r : Option (Bor (List ℕ))) (all : Bor (List ℕ)) → all.now ≡ bs
    → GetsRange bs n (length bs) r → P (drop n bs) → P bs → P (unwrap_or r all).now
gets P bs n None all e h p q = subst P (sym e) q
gets P bs n (Some x) all e h p q =
    let whole : slice_range bs n (length bs) ≡ drop n bs = take_all (length bs - n) (drop n bs) (search (rules, length-drop)) in
    subst P (sym (h.0 ∙ whole)) p

pub value_kept : (bs : List ℕ) (r : Option (Bor (List ℕ))) (all : Bor (List ℕ)) → all.now ≡ bs → GetsRange bs (zeros_len bs) (length bs) r
    → (radix : ℕ) → digits_value radix (unwrap_or r all).now ≡ digits_value radix bs
value_kept bs r all e h radix = gets (λ ds. digits_value radix ds ≡ digits_value radix bs) bs (zeros_len bs) r all e h (zeros_value radix bs) refl

pub digits_kept : (bs : List ℕ) (r : Option (Bor (List ℕ))) (all : Bor (List ℕ)) → all.now ≡ bs → GetsRange bs (zeros_len bs) (length bs) r
    → (radix : ℕ) → AllDigits radix bs → AllDigits radix (unwrap_or r all).now
digits_kept bs r all e h radix d = gets (λ ds. AllDigits radix ds) bs (zeros_len bs) r all e h (digits_dropped radix (zeros_len bs) bs d) d
