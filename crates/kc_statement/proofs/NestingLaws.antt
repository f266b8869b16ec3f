-- What one pass over tokens counts, and how deep they nest.
use Rattle.std.proofs.Common.{◌≡◌, ℕ, zero, suc, ◌+◌, ◌<◌, ◌≤◌, Bool, true, false, ◌&&◌, ◌||◌, cond, nat_le, List, [], ◌∷◌, length, take, drop, get_or, count_by, refl, ap, sym, ◌∙◌, arith}
use Rattle.std.specs.List.{list_all, list_any, range_with_len}
use Rattle.std.proofs.lemmas.List.{at_drop_more}
use Rattle.std.proofs.lemmas.List.Sums.{sum_by-cons}
use Rattle.std.proofs.lemmas.Bool.{false≢true}
use Rattle.std.proofs.lemmas.Bool.Decides.{nat_tests}
use Rattle.kc_text.specs.declared.line.Token.{Token}
use Rattle.kc_statement.specs.declared.limits.TheConstants.{MOST_NESTED}
use Rattle.kc_statement.specs.declared.nesting.Depth.{Depth}
use Rattle.kc_statement.specs.NestingDepth.{is_opening, is_closing, is_not, is_deep_at, has_many_nots_at, nests_too_deep}
use Rattle.kc_statement.specs.Nesting.{depth_after, is_too_deep}

-- ---- one pass
abbrev pub start : Depth
start = record { opened = 0; closed = 0; nots = 0 }

-- whether it is too deep before some token, or at the end
pub passes_deep : Depth → List Token → Bool
passes_deep d [] = is_too_deep d
passes_deep d (t ∷ ts) = is_too_deep d || passes_deep (depth_after d t) ts

pub passes_deep-here : (d : Depth) (ts : List Token) → is_too_deep d ≡ true → passes_deep d ts ≡ true
unfolding passes_deep
passes_deep-here d [] deep = deep
passes_deep-here d (t ∷ ts) deep = ap (λ b. b || passes_deep (depth_after d t) ts) deep

pub passes_deep-nil : (d : Depth) → passes_deep d [] ≡ is_too_deep d
unfolding passes_deep
passes_deep-nil d = refl

pub passes_deep-cons : (d : Depth) (t : Token) (ts : List Token) → is_too_deep d ≡ false → passes_deep d (t ∷ ts) ≡ passes_deep (depth_after d t) ts
unfolding passes_deep
passes_deep-cons d t ts shallow = ap (λ b. b || passes_deep (depth_after d t) ts) shallow

-- ---- tests at each position
module _ {X : Type 0} where
  list_any_same : (p q : X → Bool) (xs : List X) → ((x : X) → p x ≡ q x) → list_any p xs ≡ list_any q xs
  list_any_same p q [] same = refl
  list_any_same p q (x ∷ xs) same = ap (λ b. b || list_any p xs) (same x) ∙ ap (λ b. q x || b) (list_any_same p q xs same)

-- a test at the positions from 0 to n
at_some_position : (ℕ → Bool) → ℕ → Bool
at_some_position p n = list_any p (range_with_len 0 (n + 1))

range_shift : (p : ℕ → Bool) (a n : ℕ) → list_any p (range_with_len (a + 1) n) ≡ list_any (λ k. p (k + 1)) (range_with_len a n)
range_shift p a zero = refl
range_shift p a (suc n) = ap (λ b. p (a + 1) || b) (range_shift p (a + 1) n)

at_some_position-zero : (p : ℕ → Bool) → at_some_position p 0 ≡ p 0
unfolding at_some_position
at_some_position-zero p = or_false (p 0) where
  or_false : (b : Bool) → (b || false) ≡ b
  or_false true = refl
  or_false false = refl

at_some_position-suc : (p : ℕ → Bool) (n : ℕ) → at_some_position p (suc n) ≡ (p 0 || at_some_position (λ k. p (k + 1)) n)
unfolding at_some_position
at_some_position-suc p n =
    let e : suc n + 1 ≡ suc (n + 1) = omega arith in
    ap (λ m. list_any p (range_with_len 0 m)) e ∙ ap (λ b. p 0 || b) (range_shift p 0 (n + 1))

at_some_position-same : (p q : ℕ → Bool) (n : ℕ) → ((k : ℕ) → p k ≡ q k) → at_some_position p n ≡ at_some_position q n
unfolding at_some_position
at_some_position-same p q n same = list_any_same p q (range_with_len 0 (n + 1)) same

-- ---- parentheses
opens_many : ℕ → ℕ → ℕ → Bool
opens_many n opened closed = nat_le (closed + n) opened

abbrev counted : (Token → Bool) → Token → ℕ → ℕ
counted p t k = cond (p t) (k + 1) k

-- whether somewhere n more are open than closed, after so many
passes_open : ℕ → ℕ → ℕ → List Token → Bool
passes_open n opened closed [] = opens_many n opened closed
passes_open n opened closed (t ∷ ts) = opens_many n opened closed || passes_open n (counted is_opening t opened) (counted is_closing t closed) ts

open_at : ℕ → ℕ → ℕ → List Token → ℕ → Bool
open_at n opened closed ts k = opens_many n (opened + count_by is_opening (take k ts)) (closed + count_by is_closing (take k ts))

counts : (p : Token → Bool) (m : ℕ) (t : Token) (ts : List Token) (k : ℕ) → m + count_by p (take (k + 1) (t ∷ ts)) ≡ counted p t m + count_by p (take k ts)
counts p m t ts k =
    let e : k + 1 ≡ suc k = omega arith in
    ap (λ j. m + count_by p (take j (t ∷ ts))) e
    ∙ ap (λ j. m + j) (sum_by-cons (λ y. cond (p y) 1 0) t (take k ts))
    ∙ step (p t) (count_by p (take k ts)) where
      step : (b : Bool) (j : ℕ) → m + (cond b 1 0 + j) ≡ cond b (m + 1) m + j
      step true j = omega arith
      step false j = omega arith

open_at-zero : (n opened closed : ℕ) (ts : List Token) → open_at n opened closed ts 0 ≡ opens_many n opened closed
unfolding open_at
open_at-zero n opened closed ts =
    let e : opened + 0 ≡ opened = omega arith in
    let f : closed + 0 ≡ closed = omega arith in
    ap (λ x. opens_many n x (closed + 0)) e ∙ ap (opens_many n opened) f

open_at-suc : (n opened closed : ℕ) (t : Token) (ts : List Token) (k : ℕ) → open_at n opened closed (t ∷ ts) (k + 1) ≡ open_at n (counted is_opening t opened) (counted is_closing t closed) ts k
unfolding open_at
open_at-suc n opened closed t ts k =
    ap (λ x. opens_many n x (closed + count_by is_closing (take (k + 1) (t ∷ ts)))) (counts is_opening opened t ts k)
    ∙ ap (opens_many n (counted is_opening t opened + count_by is_opening (take k ts))) (counts is_closing closed t ts k)

passes_open_is : (n opened closed : ℕ) (ts : List Token) → passes_open n opened closed ts ≡ at_some_position (open_at n opened closed ts) (length ts)
unfolding passes_open
passes_open_is n opened closed [] = sym (at_some_position-zero (open_at n opened closed []) ∙ open_at-zero n opened closed [])
passes_open_is n opened closed (t ∷ ts) =
    let opened' = counted is_opening t opened in
    let closed' = counted is_closing t closed in
    ap (λ b. opens_many n opened closed || b) (passes_open_is n opened' closed' ts)
    ∙ sym (
    at_some_position-suc (open_at n opened closed (t ∷ ts)) (length ts)
    ∙ ap (λ b. b || at_some_position (λ k. open_at n opened closed (t ∷ ts) (k + 1)) (length ts)) (open_at-zero n opened closed (t ∷ ts))
    ∙ ap (λ b. opens_many n opened closed || b) (at_some_position-same (λ k. open_at n opened closed (t ∷ ts) (k + 1)) (open_at n opened' closed' ts) (length ts) (open_at-suc n opened closed t ts)))

-- ---- `!` in a row
-- n stand at the beginning
begins_not : ℕ → List Token → Bool
begins_not zero ts = true
begins_not (suc n) [] = false
begins_not (suc n) (t ∷ ts) = is_not t && begins_not n ts

and_under : (c x y : Bool) → (x ≡ true → y ≡ true) → (c && x) ≡ true → (c && y) ≡ true
and_under true x y f h = f h
and_under false x y f h = h

begins_not-less : (a b : ℕ) (ts : List Token) → a ≤ b → begins_not b ts ≡ true → begins_not a ts ≡ true
unfolding begins_not
begins_not-less zero b ts less h = refl
begins_not-less (suc a) zero ts less h = absurd (omega arith)
begins_not-less (suc a) (suc b) [] less h = absurd (false≢true h)
begins_not-less (suc a) (suc b) (t ∷ ts) less h =
    let less' : a ≤ b = omega arith in
    and_under (is_not t) (begins_not b ts) (begins_not a ts) (begins_not-less a b ts less') h

and_regroup : (a b c : Bool) → ((a && b) && c) ≡ (a && (b && c))
and_regroup true b c = refl
and_regroup false b c = refl

nat_le_suc : (n m : ℕ) → nat_le (suc n) (suc m) ≡ nat_le n m
nat_le_suc n m = grind (arith, nat_tests)

begins_not_is : (n : ℕ) (ts : List Token) → (list_all is_not (take n ts) && nat_le n (length ts)) ≡ begins_not n ts
unfolding begins_not
begins_not_is zero ts = grind (arith, nat_tests)
begins_not_is (suc n) [] = grind (arith, nat_tests)
begins_not_is (suc n) (t ∷ ts) =
    ap (λ b. (is_not t && list_all is_not (take n ts)) && b) (nat_le_suc n (length ts))
    ∙ and_regroup (is_not t) (list_all is_not (take n ts)) (nat_le n (length ts))
    ∙ ap (λ b. is_not t && b) (begins_not_is n ts)

-- from a position on
begins_not_at : (n : ℕ) (ts : List Token) (k : ℕ) → (list_all is_not (take (suc n) (drop k ts)) && nat_le (k + suc n) (length ts)) ≡ begins_not (suc n) (drop k ts)
unfolding begins_not
begins_not_at n ts zero =
    let e : 0 + suc n ≡ suc n = omega arith in
    ap (λ m. list_all is_not (take (suc n) ts) && nat_le m (length ts)) e ∙ begins_not_is (suc n) ts
begins_not_at n [] (suc k) = let e : nat_le (suc k + suc n) 0 ≡ false = grind (arith, nat_tests) in e
begins_not_at n (t ∷ ts) (suc k) =
    let e : suc k + suc n ≡ suc (k + suc n) = omega arith in
    ap (λ m. list_all is_not (take (suc n) (drop k ts)) && nat_le m (suc (length ts))) e
    ∙ ap (λ b. list_all is_not (take (suc n) (drop k ts)) && b) (nat_le_suc (k + suc n) (length ts))
    ∙ begins_not_at n ts k

-- somewhere n stand in a row
some_nots : ℕ → List Token → Bool
some_nots n ts = at_some_position (λ k. begins_not n (drop k ts)) (length ts)

some_nots-nil : (n : ℕ) → some_nots (suc n) [] ≡ false
unfolding some_nots begins_not
some_nots-nil n = at_some_position-zero (λ k. begins_not (suc n) (drop k [])) ∙ refl

some_nots-cons : (n : ℕ) (t : Token) (ts : List Token) → some_nots n (t ∷ ts) ≡ (begins_not n (t ∷ ts) || some_nots n ts)
unfolding some_nots
some_nots-cons n t ts =
    at_some_position-suc (λ k. begins_not n (drop k (t ∷ ts))) (length ts)
    ∙ ap (λ b. begins_not n (t ∷ ts) || b) (at_some_position-same (λ k. begins_not n (drop (k + 1) (t ∷ ts))) (λ k. begins_not n (drop k ts)) (length ts) (λ k. let e : k + 1 ≡ suc k = omega arith in ap (λ j. begins_not n (drop j (t ∷ ts))) e))

-- after so many in a row
row_after : ℕ → Token → ℕ
row_after r t = cond (is_not t) (r + 1) 0

passes_nots : ℕ → ℕ → List Token → Bool
passes_nots n r [] = nat_le n r
passes_nots n r (t ∷ ts) = nat_le n r || passes_nots n (row_after r t) ts

passes_nots-here : (n r : ℕ) (ts : List Token) → nat_le n r ≡ true → passes_nots n r ts ≡ true
unfolding passes_nots
passes_nots-here n r [] h = h
passes_nots-here n r (t ∷ ts) h = ap (λ b. b || passes_nots n (row_after r t) ts) h

at_some_position-first : (p : ℕ → Bool) (n : ℕ) → p 0 ≡ true → at_some_position p n ≡ true
at_some_position-first p zero h = at_some_position-zero p ∙ h
at_some_position-first p (suc n) h = at_some_position-suc p n ∙ ap (λ b. b || at_some_position (λ k. p (k + 1)) n) h

some_nots-here : (n : ℕ) (ts : List Token) → begins_not n ts ≡ true → some_nots n ts ≡ true
unfolding some_nots
some_nots-here n ts h = at_some_position-first (λ k. begins_not n (drop k ts)) (length ts) h

or_true : (a : Bool) → (a || true) ≡ true
or_true true = refl
or_true false = refl

absorbed_left : (a s b : Bool) → (a ≡ true → b ≡ true) → (s || b) ≡ ((a || s) || b)
absorbed_left true s b f = ap (λ x. s || x) (f refl) ∙ or_true s
absorbed_left false s b f = refl

absorbed_right : (s b : Bool) → (b ≡ true → s ≡ true) → (s || b) ≡ (s || false)
absorbed_right s true f = or_true s ∙ sym (ap (λ x. x || false) (f refl))
absorbed_right s false f = refl

-- r stand in a row already, and j more make n
passes_nots_step : (n r j : ℕ) (ts : List Token) → r + suc j ≡ suc n
    → ((r' j' : ℕ) → r' + suc j' ≡ suc n → passes_nots (suc n) r' ts ≡ (some_nots (suc n) ts || begins_not (suc j') ts))
    → (b : Bool) → passes_nots (suc n) (cond b (r + 1) 0) ts ≡ (((b && begins_not n ts) || some_nots (suc n) ts) || (b && begins_not j ts))
unfolding begins_not
passes_nots_step n r zero ts e rest true =
    let enough : nat_le (suc n) (r + 1) ≡ true = grind (arith, nat_tests) in
    passes_nots-here (suc n) (r + 1) ts enough ∙ sym (or_true (begins_not n ts || some_nots (suc n) ts))
passes_nots_step n r (suc j) ts e rest true =
    let e' : r + 1 + suc j ≡ suc n = omega arith in
    let less : suc j ≤ n = omega arith in
    rest (r + 1) j e' ∙ absorbed_left (begins_not n ts) (some_nots (suc n) ts) (begins_not (suc j) ts) (begins_not-less (suc j) n ts less)
passes_nots_step n r j ts e rest false =
    let e' : 0 + suc n ≡ suc n = omega arith in
    rest 0 n e' ∙ absorbed_right (some_nots (suc n) ts) (begins_not (suc n) ts) (some_nots-here (suc n) ts)

passes_nots_is : (n r j : ℕ) (ts : List Token) → r + suc j ≡ suc n → passes_nots (suc n) r ts ≡ (some_nots (suc n) ts || begins_not (suc j) ts)
unfolding passes_nots begins_not row_after
passes_nots_is n r j [] e =
    let few : nat_le (suc n) r ≡ false = grind (arith, nat_tests) in
    few ∙ sym (ap (λ b. b || false) (some_nots-nil n))
passes_nots_is n r j (t ∷ ts) e =
    let few : nat_le (suc n) r ≡ false = grind (arith, nat_tests) in
    ap (λ b. b || passes_nots (suc n) (row_after r t) ts) few
    ∙ passes_nots_step n r j ts e (λ r' j' e'. passes_nots_is n r' j' ts e') (is_not t)
    ∙ sym (ap (λ b. b || (is_not t && begins_not j ts)) (some_nots-cons (suc n) t ts))

-- ---- all of it
or_pairs : (a b x y : Bool) → ((a || b) || (x || y)) ≡ ((a || x) || (b || y))
or_pairs true b x y = refl
or_pairs false true x y = sym (or_true x)
or_pairs false false x y = refl

passes_deep_is : (d : Depth) (ts : List Token) → passes_deep d ts ≡ (passes_open (MOST_NESTED + 1) d.opened d.closed ts || passes_nots (MOST_NESTED + 1) d.nots ts)
unfolding passes_deep passes_open passes_nots opens_many row_after
passes_deep_is d [] = refl
passes_deep_is d (t ∷ ts) =
    ap (λ b. is_too_deep d || b) (passes_deep_is (depth_after d t) ts)
    ∙ or_pairs (nat_le (d.closed + (MOST_NESTED + 1)) d.opened) (nat_le (MOST_NESTED + 1) d.nots) (passes_open (MOST_NESTED + 1) (counted is_opening t d.opened) (counted is_closing t d.closed) ts) (passes_nots (MOST_NESTED + 1) (cond (is_not t) (d.nots + 1) 0) ts)

deep_at_is : (ts : List Token) (k : ℕ) → open_at (MOST_NESTED + 1) 0 0 ts k ≡ is_deep_at ts k
unfolding open_at opens_many
deep_at_is ts k =
    let e : 0 + count_by is_opening (take k ts) ≡ count_by is_opening (take k ts) = omega arith in
    let f : 0 + count_by is_closing (take k ts) ≡ count_by is_closing (take k ts) = omega arith in
    ap (λ x. nat_le (0 + count_by is_closing (take k ts) + (MOST_NESTED + 1)) x) e ∙ ap (λ x. nat_le (x + (MOST_NESTED + 1)) (count_by is_opening (take k ts))) f

-- n stand in a row nowhere but where they stand
nots_are : (ts : List Token) → passes_nots (MOST_NESTED + 1) 0 ts ≡ some_nots (MOST_NESTED + 1) ts
nots_are ts =
    passes_nots_is MOST_NESTED 0 MOST_NESTED ts refl ∙ absorbed_right (some_nots (MOST_NESTED + 1) ts) (begins_not (MOST_NESTED + 1) ts) (some_nots-here (MOST_NESTED + 1) ts) ∙ or_none (some_nots (MOST_NESTED + 1) ts) where
      or_none : (b : Bool) → (b || false) ≡ b
      or_none true = refl
      or_none false = refl

pub nests_too_deep_is : (ts : List Token) → passes_deep start ts ≡ nests_too_deep ts
unfolding at_some_position some_nots
nests_too_deep_is ts =
    passes_deep_is start ts
    ∙ ap (λ b. b || passes_nots (MOST_NESTED + 1) 0 ts) (passes_open_is (MOST_NESTED + 1) 0 0 ts ∙ at_some_position-same (open_at (MOST_NESTED + 1) 0 0 ts) (is_deep_at ts) (length ts) (deep_at_is ts))
    ∙ ap (λ b. at_some_position (is_deep_at ts) (length ts) || b) (nots_are ts ∙ sym (at_some_position-same (has_many_nots_at ts) (λ k. begins_not (MOST_NESTED + 1) (drop k ts)) (length ts) (begins_not_at MOST_NESTED ts)))

-- few tokens
shallow : (d : Depth) → d.opened ≤ MOST_NESTED → d.nots ≤ MOST_NESTED → is_too_deep d ≡ false
shallow d opened nots = grind (arith, nat_tests)

one_more : (b : Bool) (k n : ℕ) → k + suc n ≤ MOST_NESTED → cond b (k + 1) k + n ≤ MOST_NESTED
one_more true k n h = omega arith
one_more false k n h = omega arith

one_more_row : (b : Bool) (k n : ℕ) → k + suc n ≤ MOST_NESTED → cond b (k + 1) 0 + n ≤ MOST_NESTED
one_more_row true k n h = omega arith
one_more_row false k n h = omega arith

few_from : (d : Depth) (ts : List Token) → d.opened + length ts ≤ MOST_NESTED → d.nots + length ts ≤ MOST_NESTED → passes_deep d ts ≡ false
unfolding passes_deep
few_from d [] opened nots = shallow d (omega arith) (omega arith)
few_from d (t ∷ ts) opened nots =
    ap (λ b. b || passes_deep (depth_after d t) ts) (shallow d (omega arith) (omega arith))
    ∙ few_from (depth_after d t) ts (one_more (is_opening t) d.opened (length ts) opened) (one_more_row (is_not t) d.nots (length ts) nots)

pub few_nest_little : (ts : List Token) → length ts ≤ MOST_NESTED → nests_too_deep ts ≡ false
few_nest_little ts few = sym (nests_too_deep_is ts) ∙ few_from start ts (omega arith) (omega arith)

-- ---- at a token of a list
pub passes_deep-at : (d : Depth) (ts : List Token) (i : ℕ) (t : Token) → i < length ts → t ≡ get_or ts i t → is_too_deep d ≡ false → passes_deep d (drop i ts) ≡ passes_deep (depth_after d t) (drop (i + 1) ts)
passes_deep-at d ts i t inside is h =
    at_drop_more (passes_deep d) ts i t inside
    ∙ ap (λ x. passes_deep d (x ∷ drop (i + 1) ts)) (sym is)
    ∙ passes_deep-cons d t (drop (i + 1) ts) h
