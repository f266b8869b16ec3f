-- Lists of which one element is changed, and lists that are made by number.
use Rattle.std.proofs.Common.{◌≡◌, ◌≢◌, ℕ, zero, suc, ◌+◌, ◌<◌, ◌≤◌, List, [], ◌∷◌, ◌++◌, Option, Some, None, length, map, option_map, slice_get, get_or, set, refl, ap, sym, ◌∙◌, arith}
use Rattle.std.specs.List.{range_with_len, filter_map, cons_option}
use Rattle.std.proofs.lemmas.List.Elements.{filter_map-append}
use Rattle.std.proofs.lemmas.List.{append-nil, append_assoc}
use Rattle.kc_outline.specs.TreeOf.{found_after, map_placed}
use Rattle.kc_outline.specs.Adding.{change_at, with_some}

-- ---- one element changed
pub change_at-set : {A : Type 0} → (xs : List A) (i : ℕ) (x : A) (f : A → A) → i < length xs → x ≡ get_or xs i x → set xs i (f x) ≡ change_at xs i f
change_at-set [] i x f inside is = absurd (omega arith)
change_at-set (y ∷ xs) zero x f inside is = ap (λ z. f z ∷ xs) is
change_at-set (y ∷ xs) (suc i) x f inside is = ap (λ zs. y ∷ zs) (change_at-set xs i x f (omega arith) is)

pub change_at_write : {A : Type 0} → (xs : List A) (i : ℕ) (x w : A) (f : A → A) → i < length xs → x ≡ get_or xs i x → w ≡ f x → set xs i w ≡ change_at xs i f
change_at_write xs i x w f inside is write = rw write (change_at-set xs i x f inside is)

pub change_at_past : {A : Type 0} → (xs : List A) (i : ℕ) (f : A → A) → length xs ≤ i → change_at xs i f ≡ xs
change_at_past [] i f past = refl
change_at_past (y ∷ xs) zero f past = absurd (omega arith)
change_at_past (y ∷ xs) (suc i) f past = ap (λ zs. y ∷ zs) (change_at_past xs i f (omega arith))

pub change_at_same : {A : Type 0} → (xs : List A) (i : ℕ) → change_at xs i (λ x. x) ≡ xs
change_at_same [] i = refl
change_at_same (y ∷ xs) zero = refl
change_at_same (y ∷ xs) (suc i) = ap (λ zs. y ∷ zs) (change_at_same xs i)

pub change_at_twice : {A : Type 0} → (xs : List A) (i : ℕ) (f g : A → A) → change_at (change_at xs i f) i g ≡ change_at xs i (λ x. g (f x))
change_at_twice [] i f g = refl
change_at_twice (y ∷ xs) zero f g = refl
change_at_twice (y ∷ xs) (suc i) f g = ap (λ zs. y ∷ zs) (change_at_twice xs i f g)

-- ---- made by number
pub map_range_same : {A : Type 0} → (g f : ℕ → A) (k n : ℕ) → ((i : ℕ) → k ≤ i → g i ≡ f i) → map g (range_with_len k n) ≡ map f (range_with_len k n)
map_range_same g f k zero same = refl
map_range_same g f k (suc n) same =
    let here : g k ≡ f k = same k (omega arith) in
    let rest : map g (range_with_len (k + 1) n) ≡ map f (range_with_len (k + 1) n) =
    map_range_same g f (k + 1) n (λ i late. same i (omega arith)) in
    cc

pub map_range_changed : {A : Type 0} → (g f : ℕ → A) (h : A → A) (k j n : ℕ) → ((i : ℕ) → i ≢ k + j → g i ≡ f i) → g (k + j) ≡ h (f (k + j)) → map g (range_with_len k n) ≡ change_at (map f (range_with_len k n)) j h
map_range_changed g f h k j zero same here = refl
map_range_changed g f h k zero (suc n) same here =
    let e : k + 0 ≡ k = omega arith in
    let first : g k ≡ h (f k) = rw e at here in
    let rest : map g (range_with_len (k + 1) n) ≡ map f (range_with_len (k + 1) n) =
    map_range_same g f (k + 1) n (λ i late. same i (λ p. omega arith)) in
    cc
map_range_changed g f h k (suc j) (suc n) same here =
    let e : k + suc j ≡ (k + 1) + j = omega arith in
    let first : g k ≡ f k = same k (λ p. omega arith) in
    let rest : map g (range_with_len (k + 1) n) ≡ change_at (map f (range_with_len (k + 1) n)) j h =
    map_range_changed g f h (k + 1) j n (λ i other. same i (λ p. other (p ∙ e))) (rw e at here) in
    cc

-- ---- made by number of elements
pub map_placed_push : {A B : Type 0} → (f : ℕ → A → B) (k : ℕ) (xs : List A) (x : A) → map_placed f k (xs ++ x ∷ []) ≡ map_placed f k xs ++ f (k + length xs) x ∷ []
map_placed_push f k [] x =
    let e : k + 0 ≡ k = omega arith in rw e refl
map_placed_push f k (y ∷ xs) x =
    let e : k + suc (length xs) ≡ (k + 1) + length xs = omega arith in
    rw e (ap (λ zs. f k y ∷ zs) (map_placed_push f (k + 1) xs x))

pub map_placed_same : {A B : Type 0} → (g f : ℕ → A → B) (k : ℕ) (xs : List A) → ((i : ℕ) (x : A) → k ≤ i → g i x ≡ f i x) → map_placed g k xs ≡ map_placed f k xs
map_placed_same g f k [] same = refl
map_placed_same g f k (y ∷ xs) same =
    let here : g k y ≡ f k y = same k y (omega arith) in
    let rest : map_placed g (k + 1) xs ≡ map_placed f (k + 1) xs =
    map_placed_same g f (k + 1) xs (λ i x late. same i x (omega arith)) in
    cc

pub map_placed_changed : {A B : Type 0} → (g f : ℕ → A → B) (h : B → B) (k j : ℕ) (xs : List A) → ((i : ℕ) (x : A) → i ≢ k + j → g i x ≡ f i x) → ((x : A) → g (k + j) x ≡ h (f (k + j) x)) → map_placed g k xs ≡ change_at (map_placed f k xs) j h
map_placed_changed g f h k j [] same here = refl
map_placed_changed g f h k zero (y ∷ xs) same here =
    let e : k + 0 ≡ k = omega arith in
    let first : g k y ≡ h (f k y) = rw e at (here y) in
    let rest : map_placed g (k + 1) xs ≡ map_placed f (k + 1) xs =
    map_placed_same g f (k + 1) xs (λ i x late. same i x (λ p. omega arith)) in
    cc
map_placed_changed g f h k (suc j) (y ∷ xs) same here =
    let e : k + suc j ≡ (k + 1) + j = omega arith in
    let first : g k y ≡ f k y = same k y (λ p. omega arith) in
    let rest : map_placed g (k + 1) xs ≡ change_at (map_placed f (k + 1) xs) j h =
    map_placed_changed g f h (k + 1) j xs (λ i x other. same i x (λ p. other (p ∙ e))) (λ x. rw e at (here x)) in
    cc

-- the element at a place
pub at_placed : {A B : Type 0} (f : ℕ → A → B) (k : ℕ) (xs : List A) (n : ℕ) → slice_get (map_placed f k xs) n ≡ option_map (f (k + n)) (slice_get xs n)
at_placed f k [] n = refl
at_placed f k (x ∷ xs) zero = let same : k ≡ k + 0 = omega arith in ap (λ i. Some (f i x)) same
at_placed f k (x ∷ xs) (suc n) =
    let same : k + 1 + n ≡ k + suc n = omega arith in
    at_placed f (k + 1) xs n ∙ ap (λ i. option_map (f i) (slice_get xs n)) same

-- ---- one more element
after_option : {B : Type 0} → (ys : List B) (o : Option B) → ys ++ cons_option o [] ≡ with_some ys o
after_option ys None = append-nil ys
after_option ys (Some y) = refl

pub filter_map_push : {A B : Type 0} → (f : A → Option B) (xs : List A) (x : A) → filter_map f (xs ++ x ∷ []) ≡ with_some (filter_map f xs) (f x)
filter_map_push f xs x = filter_map-append f xs (x ∷ []) ∙ after_option (filter_map f xs) (f x)

pub with_some-append : {A : Type 0} → (xs ys : List A) (o : Option A) → xs ++ with_some ys o ≡ with_some (xs ++ ys) o
with_some-append xs ys None = refl
with_some-append xs ys (Some y) = sym (append_assoc xs ys (y ∷ []))

cons-with_some : {B : Type 0} → (first last : Option B) (ys : List B) → cons_option first (with_some ys last) ≡ with_some (cons_option first ys) last
cons-with_some None last ys = refl
cons-with_some (Some x) None ys = refl
cons-with_some (Some x) (Some y) ys = refl

pub found_after_push : {A B : Type 0} → (f : List A → A → Option B) (earlier xs : List A) (x : A) → found_after f earlier (xs ++ x ∷ []) ≡ with_some (found_after f earlier xs) (f (earlier ++ xs) x)
found_after_push f earlier [] x =
    after_option [] (f earlier x) ∙ ap (λ before. with_some [] (f before x)) (sym (append-nil earlier))
found_after_push f earlier (y ∷ ys) x =
    ap (cons_option (f earlier y)) (found_after_push f (earlier ++ y ∷ []) ys x)
    ∙ cons-with_some (f earlier y) (f ((earlier ++ y ∷ []) ++ ys) x) (found_after f (earlier ++ y ∷ []) ys)
    ∙ ap (λ before. with_some (found_after f earlier (y ∷ ys)) (f before x)) (append_assoc earlier (y ∷ []) ys)

pub ruleset change_laws = (change_at_write, change_at_past)
