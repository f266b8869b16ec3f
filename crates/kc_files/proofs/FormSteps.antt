-- What the calls of std that cut a line give, in the words of its form.
use Rattle.std.proofs.Common.{◌≡◌, ◌≢◌, ℕ, suc, ◌<◌, ◌==◌, Bool, true, false, List, [], ◌∷◌, ◌++◌, length, drop, get_or, Option, Some, None, MatchOption, if◌then◌else◌, refl, sym, ap, ◌∙◌, arith}
use Rattle.std.specs.Prelude.{option_map}
use Rattle.std.specs.Borrow.{Bor}
use Rattle.std.specs.Str.Pattern.{FindsTextPrefix, StripsPrefix}
use Rattle.std.proofs.lemmas.Bool.{eq-eqb, eqb-true, ne_eqb}
use Rattle.std.proofs.lemmas.Option.{none-some, same_Some}
use Rattle.std.proofs.lemmas.Str.Pattern.{IsSplitOnceResult, split_parts}
use Rattle.kc_files.specs.ReadingSteps.{parts_of, with_first, after, parted}

-- ---- a beginning
pub after_itself : (ps bs : List ℕ) → after ps (ps ++ bs) ≡ Some bs
after_itself [] bs = refl
after_itself (p ∷ ps) bs = ap (λ x. if x then after ps (ps ++ bs) else None) (eq-eqb p p refl) ∙ after_itself ps bs

pub after_some : (ps bs r : List ℕ) → after ps bs ≡ Some r → bs ≡ ps ++ r
after_some [] bs r e = same_Some bs r e
after_some (p ∷ ps) [] r e = absurd (none-some r e)
after_some (p ∷ ps) (b ∷ bs) r e = go (p == b) refl e (after_some ps bs r)
  where
    go : (x : Bool) → (p == b) ≡ x → (if x then after ps bs else None) ≡ Some r → (after ps bs ≡ Some r → bs ≡ ps ++ r) → b ∷ bs ≡ p ∷ (ps ++ r)
    go true f h more = λ i. sym (eqb-true p b f) i ∷ more h i
    go false f h more = absurd (none-some r h)

none_after : (ps bs : List ℕ) → ((r : List ℕ) → bs ≢ ps ++ r) → after ps bs ≡ None
none_after ps bs h = go (after ps bs) refl
  where
    go : (o : Option (List ℕ)) → after ps bs ≡ o → after ps bs ≡ None
    go None e = e
    go (Some r) e = absurd (h r (after_some ps bs r e))

pub stripped : (ps bs : List ℕ) (r : Option (Bor (List ℕ))) → MatchOption r (FindsTextPrefix ps bs None) (λ x. StripsPrefix (FindsTextPrefix ps) bs x.now)
    → option_map (λ s. s.now) r ≡ after ps bs
stripped ps bs None h = sym (none_after ps bs h)
stripped ps bs (Some x) h = sym (ap (after ps) h.1.1 ∙ after_itself ps (drop h.0 bs) ∙ ap Some (sym h.2))

-- ---- round a byte
pub parted_at : (c : ℕ) (xs ys : List ℕ) → ((i : ℕ) → i < length xs → get_or xs i 0 ≢ c) → parted c (xs ++ c ∷ ys) ≡ Some (parts_of xs ys)
parted_at c [] ys h = ap (λ x. if x then Some (parts_of [] ys) else option_map (with_first c) (parted c ys)) (eq-eqb c c refl)
parted_at c (x ∷ xs) ys h =
    let more = parted c (xs ++ c ∷ ys) in
    ap (λ v. if v then Some (parts_of [] (xs ++ c ∷ ys)) else option_map (with_first x) more) (ne_eqb x c (h 0 (omega arith)))
    ∙ ap (option_map (with_first x)) (parted_at c xs ys (λ i l. h (suc i) (omega (arith, l))))

parted_none : (c : ℕ) (bs : List ℕ) → ((i : ℕ) → i < length bs → get_or bs i 0 ≢ c) → parted c bs ≡ None
parted_none c [] h = refl
parted_none c (b ∷ bs) h =
    ap (λ v. if v then Some (parts_of [] bs) else option_map (with_first b) (parted c bs)) (ne_eqb b c (h 0 (omega arith)))
    ∙ ap (option_map (with_first b)) (parted_none c bs (λ i l. h (suc i) (omega (arith, l))))

pub split : (c : ℕ) (bs : List ℕ) (r : Option (Bor (List ℕ) × Bor (List ℕ))) → IsSplitOnceResult c bs r → c < 128
    → option_map (λ p. parts_of p.0.now p.1.now) r ≡ parted c bs
split c bs None h ascii = sym (parted_none c bs (split_parts c bs None h ascii))
split c bs (Some p) h ascii =
    let parts = split_parts c bs (Some p) h ascii in
    sym (ap (parted c) parts.0 ∙ parted_at c p.0.now p.1.now parts.1)
