-- What a front of a list gives with one item more: the least, the greatest and the first.
use Rattle.std.proofs.Common.{◌≡◌, ℕ, zero, suc, ◌+◌, ◌<◌, Bool, true, false, List, [], ◌∷◌, Option, Some, None, cond, length, map, take, find, filter_map, refl, sym, ap, ◌∙◌, arith, slice_get, get_or}
use Rattle.std.specs.Option.{option_map, option_or}
use Rattle.std.proofs.lemmas.Grind.{get_or_default_zero}
use Rattle.std.proofs.lemmas.Option.{slice_get_read}
use Rattle.kc_statement.specs.declared.tri.Tri.{Tri}
use Rattle.kc_statement.specs.declared.tri.Tri.TheVariants.{No, Module, Yes}
use Rattle.kc_statement.specs.Tristate.{least, least_of, greatest, greatest_of}

least_yes : (x : Tri) → least x Yes ≡ x
least_yes No = refl
least_yes Module = refl
least_yes Yes = refl

least_least : (x y z : Tri) → least (least x y) z ≡ least x (least y z)
least_least No y z = refl
least_least Module No z = refl
least_least Module Module No = refl
least_least Module Module Module = refl
least_least Module Module Yes = refl
least_least Module Yes z = refl
least_least Yes y z = refl

pub greatest_no : (x : Tri) → greatest x No ≡ x
greatest_no No = refl
greatest_no Module = refl
greatest_no Yes = refl

greatest_greatest : (x y z : Tri) → greatest (greatest x y) z ≡ greatest x (greatest y z)
greatest_greatest No y z = refl
greatest_greatest Module No z = refl
greatest_greatest Module Module No = refl
greatest_greatest Module Module Module = refl
greatest_greatest Module Module Yes = refl
greatest_greatest Module Yes z = refl
greatest_greatest Yes y z = refl

module _ {X : Type 0} (f : X → Tri) where
  least_suc : (xs : List X) (i : ℕ) (x : X) → slice_get xs i ≡ Some x → least (least_of (map f (take i xs))) (f x) ≡ least_of (map f (take (suc i) xs))
  least_suc [] i x e = cc
  least_suc (y ∷ ys) zero x e = cc (least_yes (f y))
  least_suc (y ∷ ys) (suc i) x e = least_least (f y) (least_of (map f (take i ys))) (f x) ∙ ap (least (f y)) (least_suc ys i x e)

  greatest_suc : (xs : List X) (i : ℕ) (x : X) → slice_get xs i ≡ Some x → greatest (greatest_of (map f (take i xs))) (f x) ≡ greatest_of (map f (take (suc i) xs))
  greatest_suc [] i x e = cc
  greatest_suc (y ∷ ys) zero x e = cc (greatest_no (f y))
  greatest_suc (y ∷ ys) (suc i) x e = greatest_greatest (f y) (greatest_of (map f (take i ys))) (f x) ∙ ap (greatest (f y)) (greatest_suc ys i x e)

  pub least_at : (xs : List X) (i : ℕ) (x : X) → i < length xs → x ≡ get_or xs i x → least (least_of (map f (take i xs))) (f x) ≡ least_of (map f (take (i + 1) xs))
  least_at xs i x within is =
      let next : suc i ≡ i + 1 = omega arith in
      least_suc xs i x (slice_get_read xs (length xs) i x refl within is) ∙ ap (λ k. least_of (map f (take k xs))) next

  pub greatest_at : (xs : List X) (i : ℕ) (x : X) → i < length xs → x ≡ get_or xs i x → greatest (greatest_of (map f (take i xs))) (f x) ≡ greatest_of (map f (take (i + 1) xs))
  greatest_at xs i x within is =
      let next : suc i ≡ i + 1 = omega arith in
      greatest_suc xs i x (slice_get_read xs (length xs) i x refl within is) ∙ ap (λ k. greatest_of (map f (take k xs))) next

-- ---- the first that there is
-- what the first item gives that gives something
abbrev pub first : {X : Type 0} → (X → Option Tri) → List X → Option Tri
first g [] = None
first g (x ∷ xs) = option_or (g x) (first g xs)

or_or : (x y z : Option Tri) → option_or (option_or x y) z ≡ option_or x (option_or y z)
or_or None y z = refl
or_or (Some v) y z = refl

or_none : (x : Option Tri) → option_or x None ≡ x
or_none None = refl
or_none (Some v) = refl

module _ {X : Type 0} (g : X → Option Tri) where
  first_suc : (xs : List X) (i : ℕ) (x : X) → slice_get xs i ≡ Some x → option_or (first g (take i xs)) (g x) ≡ first g (take (suc i) xs)
  first_suc [] i x e = cc
  first_suc (y ∷ ys) zero x e = cc (or_none (g y))
  first_suc (y ∷ ys) (suc i) x e = or_or (g y) (first g (take i ys)) (g x) ∙ ap (option_or (g y)) (first_suc ys i x e)

  pub first_at : (xs : List X) (i : ℕ) (x : X) → i < length xs → x ≡ get_or xs i x → option_or (first g (take i xs)) (g x) ≡ first g (take (i + 1) xs)
  first_at xs i x within is =
      let next : suc i ≡ i + 1 = omega arith in
      first_suc xs i x (slice_get_read xs (length xs) i x refl within is) ∙ ap (λ k. first g (take k xs)) next

  -- the first of what is there
  pub first_there : (xs : List X) → slice_get (filter_map g xs) 0 ≡ first g xs
  first_there [] = refl
  first_there (x ∷ xs) = go (g x) refl (first_there xs)
    where
      go : (o : Option Tri) → g x ≡ o → slice_get (filter_map g xs) 0 ≡ first g xs → slice_get (filter_map g (x ∷ xs)) 0 ≡ option_or (g x) (first g xs)
      go None e more = rw e more
      go (Some v) e more = rw e

  -- what is found gives
  pub found_first : (p : X → Bool) (f : X → Tri) → ((x : X) → g x ≡ cond (p x) (Some (f x)) None) → (xs : List X) → option_map f (find p xs) ≡ first g xs
  found_first p f same [] = refl
  found_first p f same (x ∷ xs) = go (p x) refl (found_first p f same xs)
    where
      go : (b : Bool) → p x ≡ b → option_map f (find p xs) ≡ first g xs → option_map f (find p (x ∷ xs)) ≡ option_or (g x) (first g xs)
      go true e more = rw (same x, e)
      go false e more = rw (same x, e) more

-- ---- numbers
module _ (ns : List ℕ) (i : ℕ) (within : i < length ns) where
  number_read : get_or ns i 0 ≡ get_or ns i (get_or ns i 0)
  number_read = sym (get_or_default_zero ns i (get_or ns i 0) within)

  pub greatest_at_number : (f : ℕ → Tri) → greatest (greatest_of (map f (take i ns))) (f (get_or ns i 0)) ≡ greatest_of (map f (take (i + 1) ns))
  greatest_at_number f = greatest_at f ns i (get_or ns i 0) within number_read

  pub first_at_number : (g : ℕ → Option Tri) → option_or (first g (take i ns)) (g (get_or ns i 0)) ≡ first g (take (i + 1) ns)
  first_at_number g = first_at g ns i (get_or ns i 0) within number_read
