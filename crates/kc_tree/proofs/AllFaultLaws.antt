-- All faults of what lines define: one more at a time, none where no symbol has a problem, and the first of them.
use Rattle.std.proofs.Common.{◌≡◌, ℕ, zero, suc, ◌+◌, ◌<◌, ◌≤◌, Bool, true, false, List, [], ◌∷◌, ◌++◌, Option, Some, None, option_map, length, filter, filter_map, option_to_list, count_by, get_or, take, if◌then◌else◌, sym, refl, ap, ◌∙◌, subst, append_assoc, append-nil, arith}
use Rattle.std.specs.List.{All, AllByRecursion, list_any, range_with_len, slice_get, cons_option}
use Rattle.std.proofs.lemmas.Bool.{or_parts}
use Rattle.std.proofs.lemmas.List.{take_more}
use Rattle.std.proofs.lemmas.List.Elements.{All-append, All-cons, All-nil, filter_map-append}
use Rattle.std.proofs.lemmas.List.Sums.{length-filter}
use Rattle.std.proofs.lemmas.Option.{none-some, same_Some}
use Rattle.kc_text.specs.LineValue.{LineValue}
use Rattle.kc_statement.specs.Keywords.{is_choice}
use Rattle.kc_outline.specs.TreeValue.{TreeValue, name_of}
use Rattle.kc_tree.specs.declared.problem.SymbolProblem.{SymbolProblem}
use Rattle.kc_tree.specs.declared.problem.SymbolProblem.TheVariants.{NoType, TypeConflict, SecondPrompt, UnfitDefault, UnfitSelect, BadModules}
use Rattle.kc_tree.specs.declared.problem.ChoiceProblem.{ChoiceProblem}
use Rattle.kc_tree.specs.declared.fault.TreeFault.{TreeFault}
use Rattle.kc_tree.specs.declared.fault.TreeFault.TheVariants.{Line, Symbol, Choice, Loop, NoMemory}
use Rattle.kc_tree.specs.declared.outline_faults.OutlineFault.{OutlineFault}
use Rattle.kc_tree.specs.declared.outline_faults.OutlineFault.TheVariants as outline_problem
use Rattle.kc_tree.specs.AllFaults.{reported, AreLoops}
use Rattle.kc_tree.specs.ChoiceFaults.{problem_at}
use Rattle.kc_tree.specs.Faults.{IsTreeProblem}
use Rattle.kc_tree.specs.Linked.{IsLinkFault}
use Rattle.kc_tree.specs.OutlineFaults.{choice_fault_at, choice_faults, outline_fault, outline_faults, symbol_fault_at, symbol_faults, IsInside}
use Rattle.kc_tree.specs.Parsed.{IsOfLines}
use Rattle.kc_tree.specs.SymbolFaults.{has_any_problem, has_problem, AreSymbolsFaultless}

-- ---- one number more
range_suc : (a n j : ℕ) → a + n ≡ j → range_with_len a (suc n) ≡ range_with_len a n ++ j ∷ []
range_suc a zero j e = ap (λ k. k ∷ []) (omega (arith, e))
range_suc a (suc n) j e = ap (λ ks. a ∷ ks) (range_suc (a + 1) n j (omega (arith, e)))

range_more : (n : ℕ) → range_with_len 0 (n + 1) ≡ range_with_len 0 n ++ n ∷ []
range_more n = let one : n + 1 ≡ suc n = omega arith in ap (range_with_len 0) one ∙ range_suc 0 n n (omega arith)

listed : {X : Type 0} (o : Option X) → cons_option o [] ≡ option_to_list o
listed None = refl
listed (Some x) = refl

pub filter_map_push : {X Y : Type 0} (f : X → Option Y) (xs : List X) (x : X) → filter_map f (xs ++ x ∷ []) ≡ filter_map f xs ++ option_to_list (f x)
filter_map_push f xs x = filter_map-append f xs (x ∷ []) ∙ ap (λ ys. filter_map f xs ++ ys) (listed (f x))

pub filter_map_range_more : {X : Type 0} (f : ℕ → Option X) (n : ℕ) → filter_map f (range_with_len 0 (n + 1)) ≡ filter_map f (range_with_len 0 n) ++ option_to_list (f n)
filter_map_range_more f n = ap (filter_map f) (range_more n) ∙ filter_map_push f (range_with_len 0 n) n

pub filter_map_more : {X Y : Type 0} (f : X → Option Y) (xs : List X) (i : ℕ) (d : X) → i < length xs → filter_map f (take (i + 1) xs) ≡ filter_map f (take i xs) ++ option_to_list (f (get_or xs i d))
filter_map_more f xs i d within = ap (filter_map f) (take_more xs i d within) ∙ filter_map_push f (take i xs) (get_or xs i d)

-- what is added for one more element
pub added_next : {X Y : Type 0} (f : X → Option Y) (before now : List Y) (xs : List X) (i : ℕ) (d : X) → i < length xs → before ≡ filter_map f (take i xs) → now ≡ before ++ option_to_list (f (get_or xs i d))
    → now ≡ filter_map f (take (i + 1) xs)
added_next f before now xs i d within known is = is ∙ ap (λ ys. ys ++ option_to_list (f (get_or xs i d))) known ∙ sym (filter_map_more f xs i d within)

-- what is added after what was added before
pub added : {X Y : Type 0} (f : X → Option Y) (first before now : List Y) (xs more : List X) (x : X) → before ≡ first ++ filter_map f xs → filter_map f more ≡ filter_map f xs ++ option_to_list (f x)
    → now ≡ before ++ option_to_list (f x) → now ≡ first ++ filter_map f more
added f first before now xs more x known next is =
    is ∙ ap (λ ys. ys ++ option_to_list (f x)) known ∙ append_assoc first (filter_map f xs) (option_to_list (f x)) ∙ ap (λ ys. first ++ ys) (sym next)

-- ---- no symbol has a problem
any_none : {X : Type 0} (p : X → Bool) (xs : List X) → list_any p xs ≡ false → AllByRecursion (λ x. p x ≡ false) xs
any_none p [] none = tt
any_none p (x ∷ xs) none =
    let parts = or_parts (p x) (list_any p xs) none in (parts.0, any_none p xs parts.1)

lacks : (t : TreeValue) (k : ℕ) → has_any_problem t k ≡ false → (problem : SymbolProblem) → has_problem t problem k ≡ false
lacks t k none problem = of problem where
  each : AllByRecursion (λ (p : SymbolProblem). has_problem t p k ≡ false) (NoType ∷ TypeConflict ∷ SecondPrompt ∷ UnfitDefault ∷ UnfitSelect ∷ BadModules ∷ [])
  each = any_none (λ (p : SymbolProblem). has_problem t p k) (NoType ∷ TypeConflict ∷ SecondPrompt ∷ UnfitDefault ∷ UnfitSelect ∷ BadModules ∷ []) none

  of : (p : SymbolProblem) → has_problem t p k ≡ false
  of NoType = each.0
  of TypeConflict = each.1.0
  of SecondPrompt = each.1.1.0
  of UnfitDefault = each.1.1.1.0
  of UnfitSelect = each.1.1.1.1.0
  of BadModules = each.1.1.1.1.1.0

none_given : {X : Type 0} (f : ℕ → Option X) (a n : ℕ) → ((k : ℕ) → a ≤ k → k < a + n → f k ≡ None) → filter_map f (range_with_len a n) ≡ []
none_given f a zero none = refl
none_given f a (suc n) none = rw (none a (omega arith) (omega arith)) (none_given f (a + 1) n (λ k l m. none k (omega arith) (omega arith)))

-- only choices are at fault
pub faultless_symbols : (t : TreeValue) → AreSymbolsFaultless t → outline_faults t ≡ choice_faults t
faultless_symbols t faultless = rw (none NoType, none TypeConflict, none SecondPrompt, none UnfitDefault, none UnfitSelect, none BadModules) (append-nil (choice_faults t)) where
  none : (problem : SymbolProblem) → symbol_faults t problem ≡ []
  none problem =
      none_given (symbol_fault_at t problem) 0 (length t.symbols)
      (λ k l m. ap (λ b. if b then Some (outline_problem.Symbol problem (record { 0 = k })) else None) (lacks t k (faultless k (omega (arith, m))) problem))

-- ---- each choice at fault has a line
all_given : {X : Type 0} (P : X → Type 0) (f : ℕ → Option X) (a n : ℕ) → ((k : ℕ) (x : X) → k < a + n → f k ≡ Some x → P x) → All P (filter_map f (range_with_len a n))
all_given P f a zero each = All-nil P
all_given {X = X} P f a (suc n) each = by (f a) refl (all_given P f (a + 1) n (λ k x l is. each k x (omega (arith, l)) is)) where
  by : (o : Option X) → f a ≡ o → All P (filter_map f (range_with_len (a + 1) n)) → All P (cons_option o (filter_map f (range_with_len (a + 1) n)))
  by None is rest = rest
  by (Some x) is rest = All-cons P x _ (each a x (omega arith) is) rest

pub all_inside : (lines : List LineValue) (t : TreeValue) → length t.choices ≡ count_by is_choice lines → All (IsInside (filter is_choice lines)) (outline_faults t)
all_inside lines t choices =
    All-append P _ _ (symbols NoType) (All-append P _ _ (symbols TypeConflict) (All-append P _ _ (symbols SecondPrompt) (All-append P _ _ (symbols UnfitDefault) (All-append P _ _ (symbols UnfitSelect)
    (All-append P _ _ (all_given P (choice_fault_at t) 0 (length t.choices) choice) (symbols BadModules))))))
  where
    P : OutlineFault → Type 0
    P = IsInside (filter is_choice lines)

    symbol : (problem : SymbolProblem) (k : ℕ) (b : Bool) (f : OutlineFault) → (if b then Some (outline_problem.Symbol problem (record { 0 = k })) else None) ≡ Some f → P f
    symbol problem k true f is = subst P (same_Some _ _ is) tt
    symbol problem k false f is = absurd (none-some _ is)

    symbols : (problem : SymbolProblem) → All P (symbol_faults t problem)
    symbols problem = all_given P (symbol_fault_at t problem) 0 (length t.symbols) (λ k f l is. symbol problem k (has_problem t problem k) f is)

    choice_of_number : (k : ℕ) (o : Option ChoiceProblem) (f : OutlineFault) → k < length t.choices → option_map (λ p. outline_problem.Choice p (record { 0 = k })) o ≡ Some f → P f
    choice_of_number k None f l is = absurd (none-some _ is)
    choice_of_number k (Some p) f l is = subst P (same_Some _ _ is) (omega (arith, l, choices, length-filter is_choice lines))

    choice : (k : ℕ) (f : OutlineFault) → k < 0 + length t.choices → choice_fault_at t k ≡ Some f → P f
    choice k f l is = choice_of_number k (problem_at t k) f (omega (arith, l)) is

-- ---- the first fault
first_of_all : {X : Type 0} (P : X → Type 0) (xs : List X) (x : X) → All P xs → slice_get xs 0 ≡ Some x → P x
first_of_all P [] x all is = absurd (none-some _ is)
first_of_all P (y ∷ ys) x all is = subst P (same_Some _ _ is) (all 0 y (omega arith))

pub first_inside : (lines : List LineValue) (t : TreeValue) (x : OutlineFault) → length t.choices ≡ count_by is_choice lines → outline_fault t ≡ Some x → IsInside (filter is_choice lines) x
first_inside lines t x choices first = first_of_all (IsInside (filter is_choice lines)) (outline_faults t) x (all_inside lines t choices) first

-- as it is reported, it is why the lines have no tree
pub first_problem : (lines : List LineValue) (t : TreeValue) (x : OutlineFault) (f : TreeFault) → outline_fault t ≡ Some x → Some f ≡ reported (filter is_choice lines) t x → IsOfLines f × IsTreeProblem lines t f
first_problem lines t (outline_problem.Symbol p s) f first is =
    subst (λ g. IsOfLines g × IsTreeProblem lines t g) (sym (same_Some _ _ is)) (tt, record { symbol = s.0; is = first; name_is = refl })
first_problem lines t (outline_problem.Choice p c) f first is = by (slice_get (filter is_choice lines) c.0) refl where
  by : (o : Option LineValue) → slice_get (filter is_choice lines) c.0 ≡ o → IsOfLines f × IsTreeProblem lines t f
  by None e = absurd (none-some _ (sym (is ∙ ap (option_map (λ (l : LineValue). Choice p l.path l.number)) e)))
  by (Some l) e =
      let same : f ≡ Choice p l.path l.number = same_Some _ _ (is ∙ ap (option_map (λ (x : LineValue). Choice p x.path x.number)) e) in
      subst (λ g. IsOfLines g × IsTreeProblem lines t g) (sym same) (tt, record { choice = c.0; is = first; line = l; line_is = e; path_is = refl; number_is = refl })

-- ---- loops
-- what stops the linking, but for memory, is a loop
pub one_loop : (t : TreeValue) (f : TreeFault) → IsLinkFault t f → (f ≡ NoMemory → ⊥) → AreLoops t (f ∷ [])
one_loop t (Line p path number) h real = absurd h
one_loop t (Symbol p name) h real = absurd h
one_loop t (Choice p path number) h real = absurd h
one_loop t (Loop nodes) h real = h
one_loop t NoMemory h real = real refl
