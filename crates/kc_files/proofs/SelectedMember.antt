-- What a member of a choice and its selection have to do with what was changed.
use Rattle.std.proofs.Common.{◌≡◌, ◌<◌, length, ◌&&◌, Bool, true, false, List, [], ◌∷◌, Option, Some, None, option_and_then, filter_map, find, slice_get, if◌then◌else◌, refl, sym, ap, ◌∙◌, subst}
use Rattle.std.specs.List.{AllByRecursion, cons_option}
use Rattle.std.specs.Option.{option_map_or, option_or}
use Rattle.std.proofs.lemmas.Option.{none-some, same_Some}
use Rattle.kc_statement.specs.declared.id.SymId.{SymId}
use Rattle.kc_statement.specs.declared.tri.Tri.TheVariants.{No}
use Rattle.kc_statement.specs.Tristate.{is_no}
use Rattle.kc_outline.specs.declared.id.ChoiceId.{ChoiceId}
use Rattle.kc_outline.specs.declared.choice.ChoiceDefault.{ChoiceDefault}
use Rattle.kc_outline.specs.Grouped.{IsGrouped}
use Rattle.kc_outline.specs.TreeValue.{TreeValue, ChoiceValue, choice_of}
use Rattle.kc_tree.specs.declared.node.Node.{Node}
use Rattle.kc_tree.specs.declared.node.Node.TheVariants.{Mode, Sel}
use Rattle.kc_value.specs.declared.value.Value.{Value}
use Rattle.kc_value.specs.declared.value.Value.TheVariants.{Tri as Level, Member}
use Rattle.kc_value.specs.Assignment.{Assignment, as_tri, as_member}
use Rattle.kc_value.specs.ChangedValue.{same_value, changed_value}
use Rattle.kc_value.specs.ChoiceRule.{is_visible, is_symbol, chosen_member, visible_if, default_member, selection}
use Rattle.kc_value.specs.Rule.{rule}
use Rattle.kc_value.specs.Solution.{solution, IsSolution}
use Rattle.kc_value.specs.UserValues.{UserValues, chosen_in}
use Rattle.kc_value.specs.Without.{value_without}

-- ---- what is picked of a list
find_holds : {X : Type 0} (P : X → Type 0) (test : X → Bool) (xs : List X) (x : X) → AllByRecursion P xs → find test xs ≡ Some x → P x
find_holds P test [] x h e = absurd (none-some x e)
find_holds {X} P test (y ∷ ys) x h e = go (test y) e (find_holds P test ys x h.1)
  where
    go : (b : Bool) → (if b then Some y else find test ys) ≡ Some x → (find test ys ≡ Some x → P x) → P x
    go true f later = subst P (same_Some y x f) h.0
    go false f later = later f

first_holds : {X Y : Type 0} (P : Y → Type 0) (f : X → Option Y) (xs : List X) (y : Y) → AllByRecursion (λ x. (z : Y) → f x ≡ Some z → P z) xs
    → slice_get (filter_map f xs) 0 ≡ Some y → P y
first_holds P f [] y h e = absurd (none-some y e)
first_holds {X} {Y} P f (x ∷ xs) y h e = go (f x) refl e (first_holds P f xs y h.1)
  where
    go : (o : Option Y) → f x ≡ o → slice_get (cons_option o (filter_map f xs)) 0 ≡ Some y → (slice_get (filter_map f xs) 0 ≡ Some y → P y) → P y
    go None is g later = later g
    go (Some z) is g later = h.0 y (is ∙ g)

or_holds : {Y : Type 0} (P : Y → Type 0) (o p : Option Y) (y : Y) → (o ≡ Some y → P y) → (p ≡ Some y → P y) → option_or o p ≡ Some y → P y
or_holds P None p y a b e = b e
or_holds P (Some x) p y a b e = a e

-- ---- the selected member is one of the choice
module _ (t : TreeValue) (grouped : IsGrouped t) (a : Assignment) (c : ChoiceId) (x : ChoiceValue) (placed : slice_get t.choices c.0 ≡ Some x) where
  abbrev IsIn : SymId → Type 0
  IsIn s = choice_of t s ≡ Some c

  default_in : (active : Bool) (o : Option SymId) (m : SymId) → option_and_then (choice_of t) o ≡ Some c → visible_if t active a o ≡ Some m → IsIn m
  default_in active None m own e = absurd (none-some m e)
  default_in active (Some s) m own e = go (active && is_visible t a s) e
    where
      go : (b : Bool) → (if b then Some s else None) ≡ Some m → IsIn m
      go true f = subst IsIn (same_Some s m f) own
      go false f = absurd (none-some m f)

  defaults_in : (ds : List ChoiceDefault) → AllByRecursion (λ d. option_and_then (choice_of t) d.symbol ≡ Some c) ds
      → AllByRecursion (λ d. (m : SymId) → default_member t a d ≡ Some m → IsIn m) ds
  defaults_in [] h = tt
  defaults_in (d ∷ ds) h = (λ m e. default_in _ d.symbol m h.0 e, defaults_in ds h.1)

  chosen_in_it : (b : Bool) (test : SymId → Bool) (m : SymId) → (if b then None else find test x.members) ≡ Some m → IsIn m
  chosen_in_it true test m e = absurd (none-some m e)
  chosen_in_it false test m e = find_holds IsIn test x.members m (grouped.members c x placed) e

  selection_in : (chosen : Option SymId) (m : SymId) → selection t a c x chosen ≡ Some m → IsIn m
  selection_in chosen m e =
      or_holds IsIn (chosen_member t a c x chosen) (option_or (slice_get (filter_map (default_member t a) x.defaults) 0) (find (is_visible t a) x.members)) m
      (λ f. chosen_in_it (is_no (as_tri (a (Mode c)))) (λ s. is_symbol chosen s && is_visible t a s) m f)
      (λ f.
      or_holds IsIn (slice_get (filter_map (default_member t a) x.defaults) 0) (find (is_visible t a) x.members) m
      (λ g. first_holds IsIn (default_member t a) x.defaults m (defaults_in x.defaults (grouped.defaults c x placed)) g)
      (λ g. find_holds IsIn (is_visible t a) x.members m (grouped.members c x placed) g)
      f)
      e

module _ (t : TreeValue) (u : UserValues) (solves : IsSolution t u (solution t u)) where
  pub selected_is_member : IsGrouped t → (c : ChoiceId) (x : ChoiceValue) (m : SymId) → c.0 < length t.choices → slice_get t.choices c.0 ≡ Some x
      → as_member (solution t u (Sel c)) ≡ Some m → choice_of t m ≡ Some c
  unfolding rule
  selected_is_member grouped c x m node placed e =
      let by_rule : as_member (solution t u (Sel c)) ≡ selection t (solution t u) c x (chosen_in u c) =
      ap as_member (solves (Sel c) node ∙ ap (λ (o : Option ChoiceValue). option_map_or (λ y. Member (selection t (solution t u) c y (chosen_in u c))) o (Level No)) placed)
      in
      selection_in t grouped (solution t u) c x placed (chosen_in u c) m (sym by_rule ∙ e)

pub changed_is : (t : TreeValue) (u : UserValues) (n : Node) (v : Value) → changed_value t u n ≡ Some v → v ≡ solution t u n
unfolding changed_value
changed_is t u n v e = go (same_value (solution t u n) (value_without t u n)) e
  where
    go : (b : Bool) → (if b then None else Some (solution t u n)) ≡ Some v → v ≡ solution t u n
    go true f = absurd (none-some v f)
    go false f = sym (same_Some (solution t u n) v f)
