-- Assignments to symbols in the order of their numbers.
use Rattle.std.proofs.Common.{◌≡◌, ◌≢◌, ◌⊎◌, inl, inr, ℕ, zero, suc, ◌+◌, ◌<◌, ◌≤◌, ◌==◌, false, true≢false, List, [], ◌∷◌, ◌++◌, map, Option, Some, None, option_map, option_and_then, filter_map, refl, sym, ap, ◌∙◌, ⊎_elim, arith}
use Rattle.std.specs.List.{AllByRecursion, list_any, range_with_len, cons_option}
use Rattle.std.specs.Option.{option_or}
use Rattle.std.proofs.lemmas.Bool.{cases_eq, eq-eqb, ne_eqb, or_from, or_parts}
use Rattle.kc_statement.specs.declared.id.SymId.{SymId}
use Rattle.kc_tree.specs.declared.user_value.UserVal.{UserVal}
use Rattle.kc_files.specs.declared.assign.Assign.{Assign}
use Rattle.kc_files.specs.ConfigReading.{names_symbol}
use Rattle.kc_files.specs.Loading.{last_of}
use Rattle.kc_files.specs.WrittenAssigns.{AreApart}

-- ---- lists with one more assignment
pub part_holds : (P : Assign → Type 0) (former latter : List Assign) (a : Assign) → AllByRecursion P (former ++ a ∷ latter) → AllByRecursion P (former ++ latter)
part_holds P [] latter a h = h.1
part_holds P (b ∷ former) latter a h = (h.0, part_holds P former latter a h.1)

pub one_holds : (P : Assign → Type 0) (former latter : List Assign) (a : Assign) → AllByRecursion P (former ++ a ∷ latter) → P a
one_holds P [] latter a h = h.0
one_holds P (b ∷ former) latter a h = one_holds P former latter a h.1

part_unnamed : (s : SymId) (former latter : List Assign) (a : Assign) → list_any (names_symbol s) (former ++ a ∷ latter) ≡ false → list_any (names_symbol s) (former ++ latter) ≡ false
part_unnamed s [] latter a h = (or_parts (names_symbol s a) (list_any (names_symbol s) latter) h).1
part_unnamed s (b ∷ former) latter a h =
    let parts = or_parts (names_symbol s b) (list_any (names_symbol s) (former ++ a ∷ latter)) h in
    or_from (names_symbol s b) (list_any (names_symbol s) (former ++ latter)) parts.0 (part_unnamed s former latter a parts.1)

one_unnamed : (s : SymId) (former latter : List Assign) (a : Assign) → list_any (names_symbol s) (former ++ a ∷ latter) ≡ false → names_symbol s a ≡ false
one_unnamed s [] latter a h = (or_parts (names_symbol s a) (list_any (names_symbol s) latter) h).0
one_unnamed s (b ∷ former) latter a h = one_unnamed s former latter a (or_parts (names_symbol s b) (list_any (names_symbol s) (former ++ a ∷ latter)) h).1

-- with one left out no two are to the same symbol still
pub part_apart : (former latter : List Assign) (a : Assign) → AreApart (former ++ a ∷ latter) → AreApart (former ++ latter)
part_apart [] latter a h = h.1
part_apart (b ∷ former) latter a h = (part_unnamed b.symbol former latter a h.0, part_apart former latter a h.1)

other_way : (k n : ℕ) → (k == n) ≡ false → (n == k) ≡ false
other_way k n e = ne_eqb n k (λ same. true≢false (sym (eq-eqb k n (sym same)) ∙ e))

-- .. and none of the rest is to its symbol
pub rest_unnamed : (former latter : List Assign) (a : Assign) → AreApart (former ++ a ∷ latter) → AllByRecursion (λ b. names_symbol a.symbol b ≡ false) (former ++ latter)
rest_unnamed [] latter a h = each latter h.0
  where
    each : (xs : List Assign) → list_any (names_symbol a.symbol) xs ≡ false → AllByRecursion (λ b. names_symbol a.symbol b ≡ false) xs
    each [] e = tt
    each (x ∷ xs) e = let parts = or_parts (names_symbol a.symbol x) (list_any (names_symbol a.symbol) xs) e in (parts.0, each xs parts.1)
rest_unnamed (b ∷ former) latter a h = (other_way a.symbol.0 b.symbol.0 (one_unnamed b.symbol former latter a h.0), rest_unnamed former latter a h.1)

-- ---- what the last assignment gives
pub or_none : {X : Type 0} (o : Option X) → option_or o None ≡ o
or_none None = refl
or_none (Some x) = refl

pub none_given : {X : Type 0} (f : Assign → Option X) (xs : List Assign) → AllByRecursion (λ a. f a ≡ None) xs → last_of f xs ≡ None
none_given f [] h = refl
none_given f (a ∷ xs) h = ap (λ o. option_or o (f a)) (none_given f xs h.1) ∙ h.0

-- ---- those of symbols by number
abbrev pub symbol_of : ℕ → SymId
symbol_of k = record { 0 = k }

abbrev pub symbols_from : ℕ → ℕ → List SymId
symbols_from a n = map (λ k. record { 0 = k }) (range_with_len a n)

module _ (value : SymId → Option UserVal) where
  abbrev pub given : SymId → Option Assign
  given s = option_map (λ v. record { symbol = s; value = v }) (value s)

  abbrev pub all_given : ℕ → ℕ → List Assign
  all_given a n = filter_map given (symbols_from a n)

  one_more : (P : Assign → Type 0) (s : SymId) (xs : List Assign) (o : Option UserVal) → ((v : UserVal) → o ≡ Some v → P (record { symbol = s; value = v }))
      → AllByRecursion P xs → AllByRecursion P (cons_option (option_map (λ v. record { symbol = s; value = v }) o) xs)
  one_more P s xs None one h = h
  one_more P s xs (Some v) one h = (one v refl, h)

  -- what holds of each
  pub each_given : (P : Assign → Type 0) (a n : ℕ)
      → ((s : SymId) (v : UserVal) → a ≤ s.0 → s.0 < a + n → value s ≡ Some v → P (record { symbol = s; value = v }))
      → AllByRecursion P (all_given a n)
  each_given P a zero h = tt
  each_given P a (suc n) h =
      one_more P (symbol_of a) (all_given (a + 1) n) (value (symbol_of a)) (λ v e. h (symbol_of a) v (omega arith) (omega arith) e)
      (each_given P (a + 1) n (λ s v low high e. h s v (omega (arith, low)) (omega (arith, high)) e))

  unnamed : (s : SymId) (xs : List Assign) → AllByRecursion (λ b. names_symbol s b ≡ false) xs → list_any (names_symbol s) xs ≡ false
  unnamed s [] h = refl
  unnamed s (x ∷ xs) h = or_from (names_symbol s x) (list_any (names_symbol s) xs) h.0 (unnamed s xs h.1)

  first_apart : (s : SymId) (xs : List Assign) (o : Option UserVal) → list_any (names_symbol s) xs ≡ false → AreApart xs
      → AreApart (cons_option (option_map (λ v. record { symbol = s; value = v }) o) xs)
  first_apart s xs None e h = h
  first_apart s xs (Some v) e h = (e, h)

  pub given_apart : (a n : ℕ) → AreApart (all_given a n)
  given_apart a zero = tt
  given_apart a (suc n) =
      first_apart (symbol_of a) (all_given (a + 1) n) (value (symbol_of a))
      (unnamed (symbol_of a) (all_given (a + 1) n) (each_given (λ b. names_symbol (symbol_of a) b ≡ false) (a + 1) n (λ s v low high e. ne_eqb s.0 a (λ same. absurd (omega (arith, low, same))))))
      (given_apart (a + 1) n)

  module _ {X : Type 0} (f : Assign → Option X) where
    step : (o : Option Assign) (xs : List Assign) → last_of f (cons_option o xs) ≡ option_or (last_of f xs) (option_and_then f o)
    step None xs = sym (or_none (last_of f xs))
    step (Some x) xs = refl

    -- nothing, where each gives nothing
    pub last_none : (a n : ℕ) → ((s : SymId) → a ≤ s.0 → s.0 < a + n → option_and_then f (given s) ≡ None) → last_of f (all_given a n) ≡ None
    last_none a zero h = refl
    last_none a (suc n) h =
        step (given (symbol_of a)) (all_given (a + 1) n)
        ∙ ap (λ o. option_or o (option_and_then f (given (symbol_of a)))) (last_none (a + 1) n (λ s low high. h s (omega (arith, low)) (omega (arith, high))))
        ∙ h (symbol_of a) (omega arith) (omega arith)

    -- what one gives, where the others give nothing
    pub last_at : (m : SymId) (a n : ℕ) → a ≤ m.0 → m.0 < a + n
        → ((s : SymId) → a ≤ s.0 → s.0 < a + n → s.0 ≢ m.0 → option_and_then f (given s) ≡ None)
        → last_of f (all_given a n) ≡ option_and_then f (given m)
    last_at m a zero low high h = absurd (omega (arith, low, high))
    last_at m a (suc n) low high h =
        step (given (symbol_of a)) (all_given (a + 1) n)
        ∙ ⊎_elim
        (λ (same : a ≡ m.0).
        ap (λ o. option_or o (option_and_then f (given (symbol_of a))))
        (last_none (a + 1) n (λ s l k. h s (omega (arith, l)) (omega (arith, k)) (λ e. absurd (omega (arith, l, e, same)))))
        ∙ ap (λ (k : ℕ). option_and_then f (given (symbol_of k))) same)
        (λ other.
        ap (λ o. option_or (last_of f (all_given (a + 1) n)) o) (h (symbol_of a) (omega arith) (omega arith) other)
        ∙ or_none (last_of f (all_given (a + 1) n))
        ∙ last_at m (a + 1) n (⊎_elim (λ e. absurd (other e)) (λ l. l) (cases_at a m.0 low)) (omega (arith, high)) (λ s l k. h s (omega (arith, l)) (omega (arith, k))))
        (cases_eq a m.0)
      where
        cases_at : (k n : ℕ) → k ≤ n → (k ≡ n) ⊎ (k + 1 ≤ n)
        cases_at k n l = ⊎_elim (λ e. inl e) (λ d. inr (omega (arith, l, d))) (cases_eq k n)
