-- The member that a choice selects is visible.
use Rattle.std.proofs.Common.{◌≡◌, Bool, true, false, true≢false, List, [], ◌∷◌, Option, Some, None, find, filter_map, refl, sym, ap, ◌∙◌, subst, slice_get}
use Rattle.std.specs.Prelude.{◌&&◌, ◌==◌, not, option_and_then}
use Rattle.std.specs.Option.{option_or}
use Rattle.std.proofs.lemmas.Bool.{eqb-true}
use Rattle.kc_statement.specs.declared.id.SymId.{SymId}
use Rattle.kc_statement.specs.declared.tri.Tri.{Tri}
use Rattle.kc_statement.specs.declared.tri.Tri.TheVariants.{No, Module, Yes}
use Rattle.kc_statement.specs.Tristate.{is_no}
use Rattle.kc_outline.specs.declared.choice.ChoiceDefault.{ChoiceDefault}
use Rattle.kc_outline.specs.declared.id.ChoiceId.{ChoiceId}
use Rattle.kc_outline.specs.TreeValue.{TreeValue, ChoiceValue, SymbolValue}
use Rattle.kc_tree.specs.ConditionTable.{of_choice_default}
use Rattle.kc_tree.specs.declared.node.Node.TheVariants.{Mode, Sel, Vis}
use Rattle.kc_value.specs.Assignment.{Assignment, as_member, as_tri}
use Rattle.kc_value.specs.ChoiceRule.{chosen_member, default_member, is_symbol, is_visible, selected_in, selection, visible_if}
use Rattle.kc_value.specs.Conditions.{condition_value}
use Rattle.kc_value.specs.ExprValue.{yes_if}
use Rattle.kc_value.specs.Solution.{IsOnlySolution, solution}
use Rattle.kc_value.specs.UserValues.{UserValues, chosen_in}
use Rattle.kc_bounds.specs.TriSets.{IsIn}
use Rattle.kc_bounds.proofs.SolutionLaws.{selection_is}

-- both of two tests hold
and_right : (b c : Bool) → b && c ≡ true → c ≡ true
and_right true c e = e
and_right false c e = absurd (true≢false (sym e))

module _ (t : TreeValue) (a : Assignment) where
  -- a symbol that there is is visible
  IsSeen : Option SymId → Type 0
  IsSeen o = (r : SymId) → o ≡ Some r → is_visible t a r ≡ true

  seen_or : (o p : Option SymId) → IsSeen o → IsSeen p → IsSeen (option_or o p)
  unfolding IsSeen
  seen_or None p h k = k
  seen_or (Some s) p h k = h

  found_seen : (p : SymId → Bool) → ((s : SymId) → p s ≡ true → is_visible t a s ≡ true) → (xs : List SymId) → IsSeen (find p xs)
  unfolding IsSeen
  found_seen p h [] = λ r e. cc
  found_seen p h (x ∷ xs) = go (p x) refl (found_seen p h xs)
    where
      go : (b : Bool) → p x ≡ b → ((r : SymId) → find p xs ≡ Some r → is_visible t a r ≡ true)
          → (r : SymId) → find p (x ∷ xs) ≡ Some r → is_visible t a r ≡ true
      go true is more r e = let same : x ≡ r = cc in subst (λ s. is_visible t a s ≡ true) same (h x is)
      go false is more r e = more r (rw is at e)

  if_seen : (active : Bool) (s : Option SymId) → IsSeen (visible_if t active a s)
  unfolding IsSeen
  if_seen active None r e = cc
  if_seen active (Some m) r e = go (active && is_visible t a m) refl
    where
      go : (b : Bool) → (active && is_visible t a m) ≡ b → is_visible t a r ≡ true
      go true is = let same : m ≡ r = cc in subst (λ s. is_visible t a s ≡ true) same (and_right active (is_visible t a m) is)
      go false is = cc

  defaults_seen : (ds : List ChoiceDefault) → IsSeen (slice_get (filter_map (default_member t a) ds) 0)
  unfolding IsSeen
  defaults_seen [] = λ r e. cc
  defaults_seen (d ∷ ds) = go (default_member t a d) refl (if_seen (not (is_no (condition_value t a (of_choice_default d)))) d.symbol) (defaults_seen ds)
    where
      go : (o : Option SymId) → default_member t a d ≡ o → IsSeen (default_member t a d) → IsSeen (slice_get (filter_map (default_member t a) ds) 0)
          → (r : SymId) → slice_get (filter_map (default_member t a) (d ∷ ds)) 0 ≡ Some r → is_visible t a r ≡ true
      go None is here more r e = more r (rw is at e)
      go (Some m) is here more r e = here r (is ∙ (rw is at e))

  chosen_seen : (c : ChoiceId) (x : ChoiceValue) (chosen : Option SymId) → IsSeen (chosen_member t a c x chosen)
  unfolding IsSeen
  chosen_seen c x chosen = go (is_no (as_tri (a (Mode c)))) refl
    where
      go : (b : Bool) → is_no (as_tri (a (Mode c))) ≡ b → (r : SymId) → chosen_member t a c x chosen ≡ Some r → is_visible t a r ≡ true
      go true is r e = cc
      go false is r e = found_seen (λ s. is_symbol chosen s && is_visible t a s) (λ s h. and_right (is_symbol chosen s) (is_visible t a s) h) x.members r (rw is at e)

  pub selection_seen : (c : ChoiceId) (x : ChoiceValue) (chosen : Option SymId) (r : SymId) → selection t a c x chosen ≡ Some r → is_visible t a r ≡ true
  unfolding IsSeen
  selection_seen c x chosen =
      seen_or (chosen_member t a c x chosen) (option_or (slice_get (filter_map (default_member t a) x.defaults) 0) (find (is_visible t a) x.members))
      (chosen_seen c x chosen)
      (seen_or (slice_get (filter_map (default_member t a) x.defaults) 0) (find (is_visible t a) x.members) (defaults_seen x.defaults)
      (found_seen (is_visible t a) (λ s h. h) x.members))

-- a symbol is another one of its number
same_symbol : (r s : SymId) → r.0 == s.0 ≡ true → r ≡ s
same_symbol r s e = ap (λ k. record { 0 = k }) (eqb-true r.0 s.0 e)

pub selected_seen : (t : TreeValue) (w : UserValues) → IsOnlySolution t w (solution t w) → (c : ChoiceId) (s : SymId)
    → is_symbol (selected_in t (solution t w) c) s ≡ true → is_visible t (solution t w) s ≡ true
selected_seen t w only c s e = go (slice_get t.choices c.0) refl
  where
    in_selection : (o : Option SymId) → ((r : SymId) → o ≡ Some r → is_visible t (solution t w) r ≡ true) → is_symbol o s ≡ true → is_visible t (solution t w) s ≡ true
    in_selection None h is = absurd (true≢false (sym is))
    in_selection (Some r) h is = subst (λ q. is_visible t (solution t w) q ≡ true) (same_symbol r s is) (h r refl)

    go : (o : Option ChoiceValue) → slice_get t.choices c.0 ≡ o → is_visible t (solution t w) s ≡ true
    go None at = absurd (true≢false (sym (rw at at e)))
    go (Some x) at =
        let selected : selected_in t (solution t w) c ≡ as_member (solution t w (Sel c)) = ap (λ o. option_and_then (λ (y : ChoiceValue). as_member (solution t w (Sel c))) o) at in
        let is = selected ∙ selection_is t w only c x at in
        in_selection (selection t (solution t w) c x (chosen_in w c)) (selection_seen t (solution t w) c x (chosen_in w c)) (rw is at e)

-- what is visible is not n
visible_on : (t : TreeValue) (a : Assignment) (s : SymId) → is_visible t a s ≡ true → is_no (as_tri (a (Vis s))) ≡ false
visible_on t a s e = go (slice_get t.symbols s.0) refl
  where
    is_on : (v : Tri) → not (is_no v) ≡ true → is_no v ≡ false
    is_on No h = absurd (true≢false (sym h))
    is_on Module h = refl
    is_on Yes h = refl

    go : (o : Option SymbolValue) → slice_get t.symbols s.0 ≡ o → is_no (as_tri (a (Vis s))) ≡ false
    go None at = absurd (true≢false (sym (rw at at e)))
    go (Some x) at = is_on (as_tri (a (Vis s))) (rw at at e)

-- a member is n, or y where it may be visible
pub member_in : (t : TreeValue) (w : UserValues) → IsOnlySolution t w (solution t w) → (c : ChoiceId) (s : SymId) (more : Bool)
    → (is_no (as_tri (solution t w (Vis s))) ≡ false → more ≡ true)
    → IsIn (record { no = true; «module» = false; yes = more }) (yes_if (is_symbol (selected_in t (solution t w) c) s))
member_in t w only c s more h = go (is_symbol (selected_in t (solution t w) c) s) refl
  where
    go : (b : Bool) → is_symbol (selected_in t (solution t w) c) s ≡ b → IsIn (record { no = true; «module» = false; yes = more }) (yes_if b)
    go false is = record { there = refl }
    go true is = record { there = h (visible_on t (solution t w) s (selected_seen t w only c s is)) }
