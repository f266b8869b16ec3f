-- No assignment of the default file can be left out.
use Rattle.std.proofs.Common.{◌≡◌, ◌<◌, ◌==◌, Bool, true, false, true≢false, ◌&&◌, List, [], ◌∷◌, ◌++◌, length, Option, Some, None, option_map, option_and_then, is_some, slice_get, if◌then◌else◌, refl, sym, ap, ◌∙◌, subst, arith}
use Rattle.std.specs.List.{AllByRecursion}
use Rattle.std.proofs.lemmas.Bool.{and_parts, eqb-true, eq-eqb, ne_eqb}
use Rattle.std.proofs.lemmas.Option.{none-some, slice_get_within}
use Rattle.kc_statement.specs.declared.id.SymId.{SymId}
use Rattle.kc_statement.specs.declared.tri.Tri.TheVariants.{Yes}
use Rattle.kc_outline.specs.declared.id.ChoiceId.{ChoiceId}
use Rattle.kc_outline.specs.TreeValue.{TreeValue, ChoiceValue, choice_of}
use Rattle.kc_tree.specs.declared.node.Node.TheVariants.{Sel}
use Rattle.kc_tree.specs.declared.user_value.UserVal.{UserVal}
use Rattle.kc_tree.specs.declared.user_value.UserVal.TheVariants.{Tri as TriVal}
use Rattle.kc_value.specs.Assignment.{as_member}
use Rattle.kc_value.specs.ChangedValue.{changed_value, SameOwned, ChangesAreJustEnough}
use Rattle.kc_value.specs.ChoiceRule.{is_symbol, selected_in}
use Rattle.kc_value.specs.Replay.{shown_in}
use Rattle.kc_value.specs.Solution.{solution}
use Rattle.kc_value.specs.UserValues.{UserValues, user_value, chosen_in, no_values}
use Rattle.kc_files.specs.declared.assign.Assign.{Assign}
use Rattle.kc_files.specs.declared.loading.Load.TheVariants.{Replace}
use Rattle.kc_files.specs.ConfigReading.{names_symbol}
use Rattle.kc_files.specs.DefaultLoading.{default_assigns}
use Rattle.kc_files.specs.DefaultText.{is_changed_member, default_value}
use Rattle.kc_files.specs.Loading.{value_for, is_member_of, member_for, user_after}
use Rattle.kc_files.specs.WrittenAssigns.{AreApart}
use Rattle.kc_files.proofs.AssignLists.{each_given, none_given, one_holds, part_holds, rest_unnamed}
use Rattle.kc_files.proofs.DefaultAssigns.{apart}
use Rattle.kc_files.proofs.DefaultLoaded.{default_by, free_value, chosen_is, member_given}

weaker_two : (P Q R : Assign → Type 0) → ((a : Assign) → P a → Q a → R a) → (xs : List Assign) → AllByRecursion P xs → AllByRecursion Q xs → AllByRecursion R xs
weaker_two P Q R f [] h k = tt
weaker_two P Q R f (x ∷ xs) h k = (f x h.0 k.0, weaker_two P Q R f xs h.1 k.1)

module _ (t : TreeValue) (u : UserValues) where
  -- each assignment is that of its symbol
  record IsDefault (a : Assign) : Type 0 where
    pub inside : a.symbol.0 < length t.symbols
    pub given_by : default_value t u a.symbol ≡ Some a.value

  all_default : AllByRecursion IsDefault (default_assigns t u)
  all_default = each_given (default_value t u) IsDefault 0 (length t.symbols) (λ s v low high e. record { inside = omega (arith, high); given_by = e })

  other_symbol : (o : Option SymId) (s r : SymId) → is_symbol o s ≡ true → (r.0 == s.0) ≡ false → is_symbol o r ≡ false
  other_symbol None s r e f = absurd (true≢false (sym e))
  other_symbol (Some m) s r e f =
      ne_eqb m.0 r.0 (λ same. true≢false (sym (eq-eqb r.0 s.0 (sym same ∙ eqb-true m.0 s.0 e)) ∙ f))

  unselected : (x z : Bool) (s : SymId) → (if x && (false && z) then Some s else None) ≡ None
  unselected true z s = refl
  unselected false z s = refl

  -- an assignment to another symbol than the selected one chooses no member
  chooses_none : (c : ChoiceId) (s : SymId) → is_symbol (selected_in t (solution t u) c) s ≡ true → (b : Assign) → IsDefault b → names_symbol s b ≡ false → member_for t c b ≡ None
  chooses_none c s chosen b own other =
      sym (ap (λ o. option_and_then (member_for t c) (option_map (λ v. record { symbol = b.symbol; value = v }) o)) own.given_by)
      ∙ member_given t u c b.symbol
      ∙ ap (λ q. if is_member_of t c b.symbol && (q && is_some (changed_value t u (Sel c))) then Some b.symbol else None)
      (other_symbol (selected_in t (solution t u) c) s b.symbol chosen other)
      ∙ unselected (is_member_of t c b.symbol) (is_some (changed_value t u (Sel c))) b.symbol

  choice_placed : (c : ChoiceId) (s : SymId) → is_symbol (selected_in t (solution t u) c) s ≡ true → c.0 < length t.choices
  choice_placed c s e = go (slice_get t.choices c.0) refl
    where
      go : (o : Option ChoiceValue) → slice_get t.choices c.0 ≡ o → c.0 < length t.choices
      go None f = absurd (true≢false (sym e ∙ ap (λ (o : Option ChoiceValue). is_symbol (option_and_then (λ x. as_member (solution t u (Sel c))) o) s) f))
      go (Some x) f = slice_get_within t.choices c.0 x f

  changed_if : (b : Bool) (v : UserVal) → (if b then Some (TriVal Yes) else None) ≡ Some v → b ≡ true
  changed_if true v e = refl
  changed_if false v e = absurd (none-some v e)

  pub needed_one : ChangesAreJustEnough t u → (former latter : List Assign) (a : Assign) → default_assigns t u ≡ former ++ a ∷ latter
      → SameOwned t u (user_after t (no_values t) Replace (former ++ latter)) → ⊥
  needed_one just former latter a is same = go (choice_of t a.symbol) refl
    where
      w : UserValues
      w = user_after t (no_values t) Replace (former ++ latter)

      all : AllByRecursion IsDefault (former ++ a ∷ latter)
      all = subst (AllByRecursion IsDefault) is all_default

      own : IsDefault a
      own = one_holds IsDefault former latter a all

      others : AllByRecursion (λ b. names_symbol a.symbol b ≡ false) (former ++ latter)
      others = rest_unnamed former latter a (subst AreApart is (apart t u))

      rest : AllByRecursion IsDefault (former ++ latter)
      rest = part_holds IsDefault former latter a all

      member : (c : ChoiceId) → is_changed_member t u c a.symbol ≡ true → ⊥
      member c e =
          let parts = and_parts (is_symbol (selected_in t (solution t u) c) a.symbol) (is_some (changed_value t u (Sel c))) e in
          let inside : c.0 < length t.choices = choice_placed c a.symbol parts.0 in
          let none : chosen_in w c ≡ None =
          chosen_is t (former ++ latter) c inside
          ∙ none_given (member_for t c) (former ++ latter)
          (weaker_two IsDefault (λ b. names_symbol a.symbol b ≡ false) (λ b. member_for t c b ≡ None) (chooses_none c a.symbol parts.0) (former ++ latter) rest others)
          in
          true≢false (sym parts.1 ∙ ap is_some (just.needed_members w same c inside none))

      go : (o : Option ChoiceId) → choice_of t a.symbol ≡ o → ⊥
      go None e =
          let none : user_value w a.symbol ≡ None =
          free_value t (former ++ latter) a.symbol own.inside e
          ∙ none_given (value_for a.symbol) (former ++ latter)
          (weaker_two IsDefault (λ b. names_symbol a.symbol b ≡ false) (λ b. value_for a.symbol b ≡ None) (λ b d f. ap (λ q. if q then Some b.value else None) f) (former ++ latter) rest others)
          in
          none-some a.value
          (sym (ap (option_and_then shown_in) (just.needed w same a.symbol own.inside none)) ∙ sym (default_by t u a.symbol None e) ∙ own.given_by)
      go (Some c) e = member c (changed_if (is_changed_member t u c a.symbol) a.value (sym (default_by t u a.symbol (Some c) e) ∙ own.given_by))
