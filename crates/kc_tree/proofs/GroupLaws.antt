-- How choices and their members belong together where nothing that lines define has a fault.
use Rattle.std.proofs.Common.{◌≡◌, ℕ, zero, suc, ◌+◌, ◌<◌, ◌≤◌, ◌==◌, ◌||◌, not, Bool, true, false, if◌then◌else◌, List, [], ◌∷◌, ◌++◌, Option, Some, None, option_map, option_and_then, is_some, slice_get, length, filter_map, refl, sym, ap, ◌∙◌, inl, inr, arith}
use Rattle.std.specs.Prelude.{nat_lt}
use Rattle.std.specs.List.{AllByRecursion, cons_option, list_any, range_with_len}
use Rattle.std.specs.Option.{option_map_or}
use Rattle.std.proofs.lemmas.Bool.{true≢false, eqb-true, eq-eqb, cases_lt, or_parts, or_left, or_right}
use Rattle.std.proofs.lemmas.Option.{none-some, same_Some, slice_get_within}
use Rattle.kc_statement.specs.declared.id.SymId.{SymId}
use Rattle.kc_statement.specs.declared.symbol_type.SymbolType.{SymbolType}
use Rattle.kc_statement.specs.declared.symbol_type.SymbolType.TheVariants as kind
use Rattle.kc_outline.specs.declared.id.ChoiceId.{ChoiceId}
use Rattle.kc_outline.specs.declared.choice.ChoiceDefault.{ChoiceDefault}
use Rattle.kc_outline.specs.Grouped.{IsGrouped}
use Rattle.kc_outline.specs.Members.{AreMembersListed}
use Rattle.kc_outline.specs.TreeValue.{TreeValue, SymbolValue, ChoiceValue, choice_of, kind_of, same_type, choice_prompt_of}
use Rattle.kc_tree.specs.declared.problem.ChoiceProblem.{ChoiceProblem}
use Rattle.kc_tree.specs.declared.problem.SymbolProblem.TheVariants as problem
use Rattle.kc_tree.specs.declared.outline_faults.OutlineFault.{OutlineFault}
use Rattle.kc_tree.specs.declared.outline_faults.OutlineFault.TheVariants as outline_problem
use Rattle.kc_tree.specs.ChoiceFaults.{same_choice, is_member, is_of_other_type, lacks_prompt, is_defined_again, symbol_has, member_problem, choice_problem, problem_at}
use Rattle.kc_tree.specs.OutlineFaults.{choice_fault_at, choice_faults, outline_fault, outline_faults, symbol_faults}

-- ---- no choice has a problem
none_given : {X : Type 0} (f : ℕ → Option X) (a n k : ℕ) → filter_map f (range_with_len a n) ≡ [] → a ≤ k → k < a + n → f k ≡ None
none_given f a zero k none l m = absurd (omega (arith, l, m))
none_given {X = X} f a (suc n) k none l m = by (f a) refl (λ rest past. none_given f (a + 1) n k rest (omega (arith, past)) (omega (arith, m))) where
  others : List X
  others = filter_map f (range_with_len (a + 1) n)

  by : (o : Option X) → f a ≡ o → (filter_map f (range_with_len (a + 1) n) ≡ [] → a < k → f k ≡ None) → f k ≡ None
  by (Some x) is later =
      let some : [] ≡ x ∷ others = sym none ∙ ap (λ o. cons_option o others) is in cc
  by None is later = elim (cases_lt a k) [
    | inl past ↦ later (sym (ap (λ o. cons_option o others) is) ∙ none) past
    | inr same ↦ (let here : k ≡ a = omega (arith, same, l) in ap f here ∙ is)
  ]

parts_nil : {X : Type 0} (xs ys : List X) → xs ++ ys ≡ [] → (xs ≡ []) × (ys ≡ [])
parts_nil [] ys none = (refl, none)
parts_nil (x ∷ xs) ys none = cc

rest_nil : {X : Type 0} (xs ys : List X) → xs ++ ys ≡ [] → ys ≡ []
rest_nil xs ys none = (parts_nil xs ys none).1

none_first : {X : Type 0} (xs : List X) → slice_get xs 0 ≡ None → xs ≡ []
none_first [] none = refl
none_first (x ∷ xs) none = absurd (none-some x (sym none))

module _ (t : TreeValue) (faultless : outline_fault t ≡ None) (c : ChoiceId) (y : ChoiceValue) (is : slice_get t.choices c.0 ≡ Some y) where
  no_choices : choice_faults t ≡ []
  no_choices =
      (parts_nil _ (symbol_faults t problem.BadModules)
      (rest_nil (symbol_faults t problem.UnfitSelect) _
      (rest_nil (symbol_faults t problem.UnfitDefault) _
      (rest_nil (symbol_faults t problem.SecondPrompt) _
      (rest_nil (symbol_faults t problem.TypeConflict) _
      (rest_nil (symbol_faults t problem.NoType) _ (none_first (outline_faults t) faultless))))))).0

  no_problem : choice_problem t c y ≡ None
  no_problem =
      let inside = slice_get_within t.choices c.0 y is in
      let none : choice_fault_at t c.0 ≡ None = none_given (choice_fault_at t) 0 (length t.choices) c.0 no_choices (omega arith) (omega (arith, inside)) in
      sym (ap (option_and_then (choice_problem t c)) is) ∙ unmapped (problem_at t c.0) none
    where
      unmapped : (o : Option ChoiceProblem) → option_map (λ p. outline_problem.Choice p c) o ≡ None → o ≡ None
      unmapped None none = refl
      unmapped (Some p) none = absurd (none-some _ (sym none))

-- ---- what a choice and its members are not
last_none : {A : Type 0} (a b d : Bool) (x y z : A) (e : Option A) → (if a then Some x else (if b then Some y else (if d then Some z else e))) ≡ None → (d ≡ false) × (e ≡ None)
last_none true b d x y z e h = absurd (none-some x (sym h))
last_none false true d x y z e h = absurd (none-some y (sym h))
last_none false false true x y z e h = absurd (none-some z (sym h))
last_none false false false x y z e h = (refl, h)

first_none : {A : Type 0} (a b d : Bool) (x y z : A) → (if a then Some x else (if b then Some y else (if d then Some z else None))) ≡ None → (a ≡ false) × (d ≡ false)
first_none true b d x y z h = absurd (none-some x (sym h))
first_none false true d x y z h = absurd (none-some y (sym h))
first_none false false true x y z h = absurd (none-some z (sym h))
first_none false false false x y z h = (refl, refl)

-- what no member has, a symbol that is listed hasn't
unlisted_test : (test : SymId → Bool) (s : SymId) (ms : List SymId) → list_any (λ m. m.0 == s.0) ms ≡ true → list_any test ms ≡ false → test s ≡ false
unlisted_test test s [] listed none = absurd (true≢false (sym listed))
unlisted_test test s (m ∷ ms) listed none = by (m.0 == s.0) refl (λ there. unlisted_test test s ms there (or_parts (test m) (list_any test ms) none).1)
  where
    by : (b : Bool) → (m.0 == s.0) ≡ b → (list_any (λ (x : SymId). x.0 == s.0) ms ≡ true → test s ≡ false) → test s ≡ false
    by true e before =
        let same : m ≡ s = ap (λ (k : ℕ). record { 0 = k }) (eqb-true m.0 s.0 e) in
        sym (ap test same) ∙ (or_parts (test m) (list_any test ms) none).0
    by false e before = before (sym (ap (λ b. b || list_any (λ (x : SymId). x.0 == s.0) ms) e) ∙ listed)

each_listed : (P : SymId → Type 0) (ms : List SymId) → ((s : SymId) → list_any (λ m. m.0 == s.0) ms ≡ true → P s) → AllByRecursion P ms
each_listed P [] f = tt
each_listed P (m ∷ ms) f = (
  f m (or_left (m.0 == m.0) (list_any (λ (x : SymId). x.0 == m.0) ms) (eq-eqb m.0 m.0 refl)),
  each_listed P ms (λ s e. f s (or_right (m.0 == s.0) (list_any (λ (x : SymId). x.0 == s.0) ms) e)),
)

same_in : (c : ChoiceId) (o : Option ChoiceId) → not (same_choice c o) ≡ false → o ≡ Some c
same_in c None e = absurd (true≢false e)
same_in c (Some d) e = by (d.0 == c.0) refl
  where
    by : (b : Bool) → (d.0 == c.0) ≡ b → Some d ≡ Some c
    by true is =
        let same : d ≡ c = ap (λ (k : ℕ). record { 0 = k }) (eqb-true d.0 c.0 is) in ap Some same
    by false is = absurd (true≢false (sym (ap not is) ∙ e))

named_in : (t : TreeValue) (c : ChoiceId) (o : Option SymId) → not (is_member t c o) ≡ false → option_and_then (choice_of t) o ≡ Some c
named_in t c None e = absurd (true≢false e)
named_in t c (Some s) e = same_in c (choice_of t s) e

defaults_in : (t : TreeValue) (c : ChoiceId) (ds : List ChoiceDefault) → list_any (λ d. not (is_member t c d.symbol)) ds ≡ false → AllByRecursion (λ d. option_and_then (choice_of t) d.symbol ≡ Some c) ds
defaults_in t c [] none = tt
defaults_in t c (d ∷ ds) none =
    let parts = or_parts (not (is_member t c d.symbol)) (list_any (λ (x : ChoiceDefault). not (is_member t c x.symbol)) ds) none in
    (named_in t c d.symbol parts.0, defaults_in t c ds parts.1)

is_bool : (k : SymbolType) → not (same_type k kind.Bool) ≡ false → k ≡ kind.Bool
is_bool kind.Bool e = refl
is_bool kind.Tristate e = absurd (true≢false e)
is_bool kind.String e = absurd (true≢false e)
is_bool kind.Int e = absurd (true≢false e)
is_bool kind.Hex e = absurd (true≢false e)

one_definition : (n : ℕ) → not (n == 1) ≡ false → n ≡ 1
one_definition n e = by (n == 1) refl
  where
    by : (b : Bool) → (n == 1) ≡ b → n ≡ 1
    by true is = eqb-true n 1 is
    by false is = absurd (true≢false (sym (ap not is) ∙ e))

-- ---- all
pub grouped : (t : TreeValue) → outline_fault t ≡ None → AreMembersListed t → IsGrouped t
grouped t faultless lists = record {
  members = λ c y is. each_listed (λ s. choice_of t s ≡ Some c) y.members (λ s listed. in_it s c y is listed);
  defaults = λ c y is. defaults_in t c y.defaults (parts c y is).0;
  kinds = λ s c x chosen is.
      let own = lists.listed s c (ap (option_and_then (λ (v : SymbolValue). v.choice)) is ∙ chosen) in
      let fit = unlisted_test (symbol_has t is_of_other_type) s own.0.members own.2 (tests c own.0 own.1).0 in
      is_bool (kind_of x) (sym (ap (λ o. option_map_or (is_of_other_type t) o false) is) ∙ fit);
  listed = λ s c y chosen is.
      let own = lists.listed s c chosen in
      let same : own.0 ≡ y = same_Some own.0 y (sym own.1 ∙ is) in
      ap (λ (v : ChoiceValue). list_any (λ m. m.0 == s.0) v.members) (sym same) ∙ own.2;
} where
  parts : (c : ChoiceId) (y : ChoiceValue) → slice_get t.choices c.0 ≡ Some y → (list_any (λ d. not (is_member t c d.symbol)) y.defaults ≡ false) × (member_problem t y.members ≡ None)
  parts c y is = last_none (not (is_some (choice_prompt_of y))) (nat_lt 1 (length y.prompts)) (list_any (λ d. not (is_member t c d.symbol)) y.defaults) _ _ _ (member_problem t y.members) (no_problem t faultless c y is)

  tests : (c : ChoiceId) (y : ChoiceValue) → slice_get t.choices c.0 ≡ Some y → (list_any (symbol_has t is_of_other_type) y.members ≡ false) × (list_any (symbol_has t is_defined_again) y.members ≡ false)
  tests c y is = first_none (list_any (symbol_has t is_of_other_type) y.members) (list_any (symbol_has t lacks_prompt) y.members) (list_any (symbol_has t is_defined_again) y.members) _ _ _ (parts c y is).1

  in_it : (s : SymId) (c : ChoiceId) (y : ChoiceValue) → slice_get t.choices c.0 ≡ Some y → list_any (λ m. m.0 == s.0) y.members ≡ true → choice_of t s ≡ Some c
  in_it s c y is listed =
      let own = lists.members s c y is listed in
      let once = unlisted_test (symbol_has t is_defined_again) s y.members listed (tests c y is).1 in
      let one : length own.0.definitions ≡ 1 = one_definition (length own.0.definitions) (sym (ap (λ o. option_map_or (is_defined_again t) o false) own.1) ∙ once) in
      ap (option_and_then (λ (v : SymbolValue). v.choice)) own.1 ∙ own.2 one
