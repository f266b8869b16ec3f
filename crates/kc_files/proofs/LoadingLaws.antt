-- Assignments, applied one at a time, leave the user values that the last of them give.
use Rattle.std.proofs.Common.{◌≡◌, ◌≢◌, ℕ, zero, suc, ◌<◌, ◌≤◌, ◌==◌, Bool, true, false, true≢false, not, ◌&&◌, List, [], ◌∷◌, length, slice_set, slice_index_or, Option, Some, None, if◌then◌else◌, refl, sym, ap, ◌∙◌, ⊎_elim, arith}
use Rattle.std.specs.Prelude.{is_some, option_and_then, slice_get}
use Rattle.std.specs.Option.{option_map_or, option_or}
use Rattle.std.proofs.lemmas.Bool.{cases_eq, eq-eqb, ne_eqb}
use Rattle.std.proofs.lemmas.List.{length-set, length-replicate, get_or-set_same, get_or-set_other, get_or-replicate}
use Rattle.std.proofs.lemmas.List.FromFn.{fill_by_all}
use Rattle.std.proofs.lemmas.Option.{slice_get_cases}
use Rattle.kc_statement.specs.declared.id.SymId.{SymId}
use Rattle.kc_outline.specs.declared.id.ChoiceId.{ChoiceId}
use Rattle.kc_outline.specs.TreeValue.{TreeValue, SymbolValue, choice_of, kind_of}
use Rattle.kc_statement.specs.declared.symbol_type.SymbolType.TheVariants as kind
use Rattle.kc_tree.specs.Fits.{fits, fits_type}
use Rattle.kc_files.specs.LineReading.{IsAssignFor}
use Rattle.kc_tree.specs.declared.user_value.UserVal.{UserVal}
use Rattle.kc_value.specs.UserValues.{UserValues, user_value, chosen_in, with_value, with_chosen, IsUserFor}
use Rattle.kc_files.specs.declared.assign.Assign.{Assign}
use Rattle.kc_files.specs.declared.loading.Load.{Load}
use Rattle.kc_files.specs.declared.loading.Load.TheVariants.{Replace, Merge}
use Rattle.kc_files.specs.Loading.{last_of, value_for, is_yes, member_for, kept, value_after, chosen_after, user_after}
use Rattle.kc_files.specs.LoadingSteps.{with_loaded, loaded, left_by}

set_past : {X : Type 0} (xs : List X) (i : ℕ) (x : X) → length xs ≤ i → slice_set xs i x ≡ xs
set_past [] i x h = refl
set_past (y ∷ ys) zero x h = absurd (omega (arith, h))
set_past (y ∷ ys) (suc i) x h = ap (λ r. y ∷ r) (set_past ys i x (omega (arith, h)))

-- a choice that the tree doesn't have
pub chosen_outside : (t : TreeValue) (u : UserValues) (c : ChoiceId) (m : Option SymId) → IsUserFor t u → length t.choices ≤ c.0 → with_chosen u c m ≡ u
chosen_outside t u c m sized past = λ i. record { values = u.values; chosen = set_past u.chosen c.0 m (omega (arith, sized.chosen, past)) i }

or_assoc : {X : Type 0} (o p q : Option X) → option_or o (option_or p q) ≡ option_or (option_or o p) q
or_assoc None p q = refl
or_assoc (Some x) p q = refl

-- ---- what an assignment gives, its symbol takes
pub assign_fits : (t : TreeValue) (a : Assign) → IsAssignFor t a → choice_of t a.symbol ≡ None → fits t a.symbol a.value ≡ true
assign_fits t a h alone =
    ⊎_elim (λ at. found at.0 at.2) (λ past. absurd (omega (arith, h.0, past.0))) (slice_get_cases t.symbols a.symbol.0).1
  where
    both : (x : SymbolValue) → slice_get t.symbols a.symbol.0 ≡ Some x → (o : Option ChoiceId) → x.choice ≡ o → (not (is_some x.choice) && fits_type (kind_of x) a.value) ≡ true
    both x e None f =
        ap (λ (o : Option ChoiceId). not (is_some o) && fits_type (kind_of x) a.value) f
        ∙ ap (λ (o : Option SymbolValue). fits_type (option_map_or kind_of o kind.Bool) a.value) (sym e)
        ∙ h.1
    both x e (Some c) f =
        absurd (true≢false (ap is_some (sym f ∙ ap (λ (o : Option SymbolValue). option_and_then (λ z. z.choice) o) (sym e) ∙ alone)))

    found : (x : SymbolValue) → slice_get t.symbols a.symbol.0 ≡ Some x → fits t a.symbol a.value ≡ true
    found x e = ap (λ (o : Option SymbolValue). option_map_or (λ z. not (is_some z.choice) && fits_type (kind_of z) a.value) o false) e ∙ both x e x.choice refl

-- ---- sizes
-- one place for each symbol and for each choice
record IsSized (t : TreeValue) (u : UserValues) : Type 0 where
  pub values : length u.values ≡ length t.symbols
  pub chosen : length u.chosen ≡ length t.choices

sized_by : (t : TreeValue) (u : UserValues) (a : Assign) (o : Option ChoiceId) → IsSized t u
    → IsSized t (option_map_or (λ c. if is_yes a.value then with_chosen u c (Some a.symbol) else u) o (with_value u a.symbol (Some a.value)))
sized_by t u a None h = record { values = length-set u.values a.symbol.0 (Some a.value) ∙ h.values; chosen = h.chosen }
sized_by t u a (Some c) h = go (is_yes a.value)
  where
    go : (b : Bool) → IsSized t (if b then with_chosen u c (Some a.symbol) else u)
    go true = record { values = h.values; chosen = length-set u.chosen c.0 (Some a.symbol) ∙ h.chosen }
    go false = h

sized_loaded : (t : TreeValue) (u : UserValues) (a : Assign) → IsSized t u → IsSized t (with_loaded t u a)
sized_loaded t u a h = sized_by t u a (choice_of t a.symbol) h

sized_left : (t : TreeValue) (u : UserValues) (load : Load) → IsSized t u → IsSized t (left_by load u)
sized_left t u Replace h = record { values = length-replicate (length u.values) None ∙ h.values; chosen = length-replicate (length u.chosen) None ∙ h.chosen }
sized_left t u Merge h = h

-- ---- values
-- a symbol and what it has by an assignment: a member keeps what it had
abbrev has_by : Bool → Option UserVal → Option UserVal → Option UserVal
has_by member given had = if member then had else option_or given had

module _ (t : TreeValue) (s : SymId) (inside : s.0 < length t.symbols) where
  other_value : (a : Assign) → s.0 ≢ a.symbol.0 → value_for s a ≡ None
  other_value a other = ap (λ b. if b then Some a.value else None) (ne_eqb a.symbol.0 s.0 (λ e. other (sym e)))

  own_value : (a : Assign) → s.0 ≡ a.symbol.0 → value_for s a ≡ Some a.value
  own_value a same = ap (λ b. if b then Some a.value else None) (eq-eqb a.symbol.0 s.0 (sym same))

  nothing_given : (b : Bool) (had given : Option UserVal) → given ≡ None → had ≡ has_by b given had
  nothing_given true had given e = refl
  nothing_given false had given e = ap (λ g. option_or g had) (sym e)

  choice_same : (a : Assign) → s.0 ≡ a.symbol.0 → choice_of t s ≡ choice_of t a.symbol
  choice_same a same = ap (λ (n : ℕ). choice_of t (record { 0 = n })) same

  value_by : (u : UserValues) (a : Assign) (o : Option ChoiceId) → IsSized t u → choice_of t a.symbol ≡ o
      → user_value (option_map_or (λ c. if is_yes a.value then with_chosen u c (Some a.symbol) else u) o (with_value u a.symbol (Some a.value))) s
      ≡ has_by (is_some (choice_of t s)) (value_for s a) (user_value u s)
  value_by u a None h e =
      ⊎_elim
      (λ same.
      ap (λ n. slice_index_or (slice_set u.values a.symbol.0 (Some a.value)) n None) same
      ∙ get_or-set_same u.values a.symbol.0 (Some a.value) None (omega (arith, same, inside, h.values))
      ∙ sym (ap (λ b. has_by b (value_for s a) (user_value u s)) (ap is_some (choice_same a same ∙ e)) ∙ ap (λ g. option_or g (user_value u s)) (own_value a same)))
      (λ other.
      get_or-set_other u.values a.symbol.0 s.0 (Some a.value) None other
      ∙ nothing_given (is_some (choice_of t s)) (user_value u s) (value_for s a) (other_value a other))
      (cases_eq s.0 a.symbol.0)
  value_by u a (Some c) h e = unchanged (is_yes a.value) ∙ keeps
    where
      unchanged : (b : Bool) → user_value (if b then with_chosen u c (Some a.symbol) else u) s ≡ user_value u s
      unchanged true = refl
      unchanged false = refl

      keeps : user_value u s ≡ has_by (is_some (choice_of t s)) (value_for s a) (user_value u s)
      keeps =
          ⊎_elim
          (λ same. sym (ap (λ b. has_by b (value_for s a) (user_value u s)) (ap is_some (choice_same a same ∙ e))))
          (λ other. nothing_given (is_some (choice_of t s)) (user_value u s) (value_for s a) (other_value a other))
          (cases_eq s.0 a.symbol.0)

  two_given : (b : Bool) (o p had : Option UserVal) → has_by b o (has_by b p had) ≡ has_by b (option_or o p) had
  two_given true o p had = refl
  two_given false o p had = or_assoc o p had

  value_loaded : (u : UserValues) (bs : List Assign) → IsSized t u
      → user_value (loaded t u bs) s ≡ has_by (is_some (choice_of t s)) (last_of (value_for s) bs) (user_value u s)
  value_loaded u [] h = nothing_given (is_some (choice_of t s)) (user_value u s) None refl
  value_loaded u (a ∷ bs) h =
      value_loaded (with_loaded t u a) bs (sized_loaded t u a h)
      ∙ ap (has_by (is_some (choice_of t s)) (last_of (value_for s) bs)) (value_by u a (choice_of t a.symbol) h refl)
      ∙ two_given (is_some (choice_of t s)) (last_of (value_for s) bs) (value_for s a) (user_value u s)

  value_left : (u : UserValues) (load : Load) → IsSized t u → user_value (left_by load u) s ≡ kept load (user_value u s)
  value_left u Replace h = get_or-replicate (length u.values) s.0 None None (omega (arith, inside, h.values))
  value_left u Merge h = refl

  value_is : (u : UserValues) (load : Load) (bs : List Assign) → IsSized t u → user_value (loaded t (left_by load u) bs) s ≡ value_after t u load bs s
  value_is u load bs h =
      value_loaded (left_by load u) bs (sized_left t u load h)
      ∙ ap (has_by (is_some (choice_of t s)) (last_of (value_for s) bs)) (value_left u load h)

-- ---- chosen members
module _ (t : TreeValue) (c : ChoiceId) (inside : c.0 < length t.choices) where
  chosen_by : (u : UserValues) (a : Assign) (d : ChoiceId) (yes : Bool) → IsSized t u
      → chosen_in (if yes then with_chosen u d (Some a.symbol) else u) c ≡ option_or (if (d.0 == c.0) && yes then Some a.symbol else None) (chosen_in u c)
  chosen_by u a d true h =
      ⊎_elim
      (λ same.
      ap (λ n. slice_index_or (slice_set u.chosen d.0 (Some a.symbol)) n None) same
      ∙ get_or-set_same u.chosen d.0 (Some a.symbol) None (omega (arith, same, inside, h.chosen))
      ∙ sym (ap (λ b. option_or (if b && true then Some a.symbol else None) (chosen_in u c)) (eq-eqb d.0 c.0 (sym same))))
      (λ other.
      get_or-set_other u.chosen d.0 c.0 (Some a.symbol) None other
      ∙ sym (ap (λ b. option_or (if b && true then Some a.symbol else None) (chosen_in u c)) (ne_eqb d.0 c.0 (λ e. other (sym e)))))
      (cases_eq c.0 d.0)
  chosen_by u a d false h = go (d.0 == c.0)
    where
      go : (b : Bool) → chosen_in u c ≡ option_or (if b && false then Some a.symbol else None) (chosen_in u c)
      go true = refl
      go false = refl

  chosen_step : (u : UserValues) (a : Assign) (o : Option ChoiceId) → IsSized t u
      → chosen_in (option_map_or (λ d. if is_yes a.value then with_chosen u d (Some a.symbol) else u) o (with_value u a.symbol (Some a.value))) c
      ≡ option_or (if option_map_or (λ d. d.0 == c.0) o false && is_yes a.value then Some a.symbol else None) (chosen_in u c)
  chosen_step u a None h = refl
  chosen_step u a (Some d) h = chosen_by u a d (is_yes a.value) h

  chosen_loaded : (u : UserValues) (bs : List Assign) → IsSized t u → chosen_in (loaded t u bs) c ≡ option_or (last_of (member_for t c) bs) (chosen_in u c)
  chosen_loaded u [] h = refl
  chosen_loaded u (a ∷ bs) h =
      chosen_loaded (with_loaded t u a) bs (sized_loaded t u a h)
      ∙ ap (option_or (last_of (member_for t c) bs)) (chosen_step u a (choice_of t a.symbol) h)
      ∙ or_assoc (last_of (member_for t c) bs) (member_for t c a) (chosen_in u c)

  chosen_left : (u : UserValues) (load : Load) → IsSized t u → chosen_in (left_by load u) c ≡ kept load (chosen_in u c)
  chosen_left u Replace h = get_or-replicate (length u.chosen) c.0 None None (omega (arith, inside, h.chosen))
  chosen_left u Merge h = refl

  chosen_is : (u : UserValues) (load : Load) (bs : List Assign) → IsSized t u → chosen_in (loaded t (left_by load u) bs) c ≡ chosen_after t u load bs c
  chosen_is u load bs h =
      chosen_loaded (left_by load u) bs (sized_left t u load h) ∙ ap (option_or (last_of (member_for t c) bs)) (chosen_left u load h)

-- ---- both
sized_all : (t : TreeValue) (u : UserValues) (bs : List Assign) → IsSized t u → IsSized t (loaded t u bs)
sized_all t u [] h = h
sized_all t u (a ∷ bs) h = sized_all t (with_loaded t u a) bs (sized_loaded t u a h)

pub loaded_is : (t : TreeValue) (u : UserValues) (load : Load) (bs : List Assign) → IsUserFor t u → loaded t (left_by load u) bs ≡ user_after t u load bs
loaded_is t u load bs user =
    let h : IsSized t u = record { values = user.values; chosen = user.chosen } in
    let v : UserValues = loaded t (left_by load u) bs in
    let sized : IsSized t v = sized_all t (left_by load u) bs (sized_left t u load h) in
    let values : v.values ≡ (user_after t u load bs).values = fill_by_all (λ k. value_after t u load bs (record { 0 = k })) v.values (length t.symbols) None sized.values (λ k l. value_is t (record { 0 = k }) l u load bs h) in
    let chosen : v.chosen ≡ (user_after t u load bs).chosen = fill_by_all (λ k. chosen_after t u load bs (record { 0 = k })) v.chosen (length t.choices) None sized.chosen (λ k l. chosen_is t (record { 0 = k }) l u load bs h) in
    λ i. record { values = values i; chosen = chosen i }
