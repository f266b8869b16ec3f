-- What std says of digits, of `from_str_radix` and of cut texts, said as numerals need it.
use Rattle.std.proofs.Common.{◌≡◌, ◌≢◌, ◌≤◌, ◌<◌, ◌-◌, ◌+◌, ◌^◌, ◌==◌, ℕ, Bool, true, false, ◌&&◌, List, [], ◌∷◌, Option, Some, None, length, take, drop, get_or, if◌then◌else◌, option_map, refl, sym, ap, ◌∙◌, subst, arith, rules, Bor}
use Rattle.std.specs.Prelude.{MatchOption, nat_le}
use Rattle.std.specs.declared.result.Result.{Result}
use Rattle.std.specs.declared.result.Result.TheVariants.{Ok, Err}
use Rattle.std.specs.Result.{OkIff, result_ok}
use Rattle.std.specs.Char.{is_ascii_digit, is_ascii_hexdigit, digit_value}
use Rattle.std.specs.List.{list_all}
use Rattle.std.specs.Str.{bytes_eq}
use Rattle.std.specs.Str.Parse.{AllDigits, IsNumeral, digits_value, ParsesUnsigned, without_leading_plus}
use Rattle.std.proofs.lemmas.Bool.Decides.{nat_tests}
use Rattle.std.proofs.lemmas.Str.Parse.{without_leading_plus_none}
use Rattle.kc_statement.specs.Numerals.{up_to}

-- ---- digits
pub digit-is : (b : ℕ) → is_ascii_digit b ≡ true → digit_value b < 10
digit-is b e = grind (arith, nat_tests)

pub hex_digit-is : (b : ℕ) → is_ascii_hexdigit b ≡ true → digit_value b < 16
hex_digit-is b e = grind (arith, nat_tests)

both-true : (a b : Bool) → (a && b) ≡ true → (a ≡ true) × (b ≡ true)
both-true true b e = (refl, e)
both-true false b e = cc

pub all_digits : (radix : ℕ) (test : ℕ → Bool) → ((b : ℕ) → test b ≡ true → digit_value b < radix)
    → (bs : List ℕ) → list_all test bs ≡ true → AllDigits radix bs
all_digits radix test h [] e = tt
all_digits radix test h (b ∷ bs) e =
    let both = both-true (test b) (list_all test bs) e in
    (h b both.0, all_digits radix test h bs both.1)

-- one or more digits
pub some_digits : (test : ℕ → Bool) (bs : List ℕ) → (list_all test bs && nat_le 1 (length bs)) ≡ true → (list_all test bs ≡ true) × (0 < length bs)
some_digits test [] e = cc
some_digits test (b ∷ bs) e = ((both-true (list_all test (b ∷ bs)) (nat_le 1 (length (b ∷ bs))) e).0, search rules)

-- a digit is no `+`
no_plus : (radix : ℕ) (bs : List ℕ) → radix ≤ 36 → AllDigits radix bs → get_or bs 0 0 ≢ 43
no_plus radix [] few digits = λ e. absurd (omega (arith, e))
no_plus radix (b ∷ bs) few digits = λ e.
    let plus : digit_value b ≡ 36 = ap digit_value e in
    absurd (omega (arith, plus, digits.0))

-- ---- numbers up to a bound
up_to-within : (most n : ℕ) → n ≤ most → up_to most n ≡ Some n
up_to-within most n h = grind (arith, nat_tests)

up_to-past : (most n : ℕ) → most < n → up_to most n ≡ None
up_to-past most n h = grind (arith, nat_tests)

read_up_to : {E : Type 0} (most n : ℕ) (P : Type 0) (r : Result ℕ E) → P → OkIff r (P × (n < most + 1)) n → result_ok r ≡ up_to most n
read_up_to most n P (Ok x) p h = let within : n ≤ most = omega (arith, h.0.1) in ap Some h.1 ∙ sym (up_to-within most n within)
read_up_to most n P (Err e) p h = go (nat_le n most) refl
  where
    go : (b : Bool) → nat_le n most ≡ b → None ≡ up_to most n
    go true t = let within : n ≤ most = grind (arith, nat_tests) in absurd (h (p, omega (arith, within)))
    go false t = rw t

-- a text of digits is read as the number that they spell
pub read_digits : {E : Type 0} (radix : ℕ) (bs : List ℕ) (r : Result ℕ E) → radix ≤ 36 → AllDigits radix bs → 0 < length bs
    → ParsesUnsigned 64 radix bs r → result_ok r ≡ up_to (2 ^ 64 - 1) (digits_value radix bs)
read_digits radix bs r few digits some h =
    let plain : without_leading_plus bs ≡ bs = without_leading_plus_none bs (no_plus radix bs few digits) in
    read_up_to (2 ^ 64 - 1) (digits_value radix bs) (IsNumeral radix bs) r (some, digits)
    (subst (λ cs. OkIff r (IsNumeral radix cs × (digits_value radix cs < 2 ^ 64)) (digits_value radix cs)) plain h)

-- ---- what follows a byte
abbrev strip_byte : ℕ → List ℕ → Option (List ℕ)
strip_byte c [] = None
strip_byte c (b ∷ bs) = if b == c then Some bs else None

strip_byte-from : (c : ℕ) (bs : List ℕ) (r : Option (Bor (List ℕ)))
    → MatchOption r ((rest : List ℕ) → bs ≢ c ∷ rest) (λ x. bs ≡ c ∷ x.now) → option_map (λ s. s.now) r ≡ strip_byte c bs
strip_byte-from c [] None h = refl
strip_byte-from c [] (Some x) h = cc
strip_byte-from c (b ∷ bs) None h = go (b == c) refl
  where
    go : (t : Bool) → (b == c) ≡ t → None ≡ strip_byte c (b ∷ bs)
    go true e = absurd (h bs (ap (λ n. n ∷ bs) (grind (arith, nat_tests))))
    go false e = rw e
strip_byte-from c (b ∷ bs) (Some x) h = go (b == c) refl
  where
    go : (t : Bool) → (b == c) ≡ t → Some x.now ≡ strip_byte c (b ∷ bs)
    go true e = let same : x.now ≡ bs = cc in rw (e, same)
    go false e = let same : b ≡ c = cc in absurd (grind (arith, nat_tests))

strip_byte-is : (c : ℕ) (bs : List ℕ) → strip_byte c bs ≡ (if bytes_eq (take 1 bs) (c ∷ []) then Some (drop 1 bs) else None)
strip_byte-is c [] = refl
strip_byte-is c (b ∷ bs) = go (b == c) refl
  where
    go : (t : Bool) → (b == c) ≡ t → strip_byte c (b ∷ bs) ≡ (if bytes_eq (take 1 (b ∷ bs)) (c ∷ []) then Some bs else None)
    go true e = rw e
    go false e = rw e

-- `strip_prefix` at a byte
pub after_byte : (c : ℕ) (bs : List ℕ) (r : Option (Bor (List ℕ)))
    → MatchOption r ((rest : List ℕ) → bs ≢ c ∷ rest) (λ x. bs ≡ c ∷ x.now)
    → option_map (λ s. s.now) r ≡ (if bytes_eq (take 1 bs) (c ∷ []) then Some (drop 1 bs) else None)
after_byte c bs r h = strip_byte-from c bs r h ∙ strip_byte-is c bs

-- and at two, one after the other
pub after_neither : (c d : ℕ) (bs : List ℕ) → ((rest : List ℕ) → bs ≢ c ∷ rest)
    → None ≡ (if bytes_eq (take 2 bs) (c ∷ d ∷ []) then Some (drop 2 bs) else None)
after_neither c d [] h = refl
after_neither c d (b ∷ bs) h = go (b == c) refl
  where
    go : (t : Bool) → (b == c) ≡ t → None ≡ (if bytes_eq (take 2 (b ∷ bs)) (c ∷ d ∷ []) then Some (drop 2 (b ∷ bs)) else None)
    go true e = absurd (h bs (ap (λ n. n ∷ bs) (grind (arith, nat_tests))))
    go false e = rw e

pub after_both : (c d : ℕ) (bs rest : List ℕ) (r : Option (Bor (List ℕ))) → bs ≡ c ∷ rest
    → MatchOption r ((more : List ℕ) → rest ≢ d ∷ more) (λ x. rest ≡ d ∷ x.now)
    → option_map (λ s. s.now) r ≡ (if bytes_eq (take 2 bs) (c ∷ d ∷ []) then Some (drop 2 bs) else None)
after_both c d bs rest r e h = after_byte d rest r h ∙ subst (λ (l : List ℕ). (if bytes_eq (take 1 rest) (d ∷ []) then Some (drop 1 rest) else None) ≡ (if bytes_eq (take 2 l) (c ∷ d ∷ []) then Some (drop 2 l) else None)) (sym e) (here rest)
  where
    same : (c == c) ≡ true
    same = grind (arith, nat_tests)

    here : (l : List ℕ) → (if bytes_eq (take 1 l) (d ∷ []) then Some (drop 1 l) else None) ≡ (if bytes_eq (take 2 (c ∷ l)) (c ∷ d ∷ []) then Some (drop 2 (c ∷ l)) else None)
    here [] = rw same
    here (x ∷ l) = rw same
