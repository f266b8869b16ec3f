-- The number of a text, by what it begins with.
use Rattle.std.proofs.Common.{◌≡◌, ◌-◌, ◌^◌, ℕ, Bool, true, false, List, Some, None, take, drop, if◌then◌else◌, option_map, refl, ap}
use Rattle.std.specs.Prelude.{codes, pos, neg_ℤ}
use Rattle.std.specs.Str.{bytes_eq}
use Rattle.kc_statement.specs.Numerals.{hex_digits}
use Rattle.kc_value.specs.Numerals.{decimal_up_to, number_of_text}

if_some : {A : Type 0} (b : Bool) (x y : A) → (if b then Some x else None) ≡ Some y → (b ≡ true) × (x ≡ y)
if_some true x y e = (refl, cc)
if_some false x y e = cc

if_none : {A : Type 0} (b : Bool) (x : A) → (if b then Some x else None) ≡ None → b ≡ false
if_none true x e = cc
if_none false x e = refl

pub number_after_minus : (bs ds : List ℕ) → (if bytes_eq (take 1 bs) (codes "-") then Some (drop 1 bs) else None) ≡ Some ds
    → number_of_text bs ≡ option_map (λ n. neg_ℤ (pos n)) (decimal_up_to (2 ^ 63) ds)
number_after_minus bs ds e =
    let p = if_some (bytes_eq (take 1 bs) (codes "-")) (drop 1 bs) ds e in
    rw p.0 (ap (λ w. option_map (λ n. neg_ℤ (pos n)) (decimal_up_to (2 ^ 63) w)) p.1)

pub number_after_hex_sign : (bs ds : List ℕ) → (if bytes_eq (take 1 bs) (codes "-") then Some (drop 1 bs) else None) ≡ None
    → (if bytes_eq (take 2 bs) (codes "0x") then Some (drop 2 bs) else None) ≡ Some ds → number_of_text bs ≡ option_map pos (hex_digits ds)
number_after_hex_sign bs ds e f =
    let n = if_none (bytes_eq (take 1 bs) (codes "-")) (drop 1 bs) e in
    let p = if_some (bytes_eq (take 2 bs) (codes "0x")) (drop 2 bs) ds f in
    rw (n, p.0) (ap (λ w. option_map pos (hex_digits w)) p.1)

pub number_without_sign : (bs : List ℕ) → (if bytes_eq (take 1 bs) (codes "-") then Some (drop 1 bs) else None) ≡ None
    → (if bytes_eq (take 2 bs) (codes "0x") then Some (drop 2 bs) else None) ≡ None → number_of_text bs ≡ option_map pos (decimal_up_to (2 ^ 64 - 1) bs)
number_without_sign bs e f = rw (if_none (bytes_eq (take 1 bs) (codes "-")) (drop 1 bs) e, if_none (bytes_eq (take 2 bs) (codes "0x")) (drop 2 bs) f) refl
