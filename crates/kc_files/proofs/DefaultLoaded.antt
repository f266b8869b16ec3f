-- The assignments of the default file give a tree what was changed, and none of them can be left out.
use Rattle.std.proofs.Common.{◌≡◌, ◌≢◌, ◌<◌, ◌==◌, ℕ, zero, suc, Bool, true, false, ◌&&◌, List, [], ◌∷◌, length, Option, Some, None, option_map, option_and_then, is_some, slice_get, if◌then◌else◌, refl, sym, ap, ◌∙◌, arith}
use Rattle.std.specs.Option.{option_map_or, option_or}
use Rattle.std.proofs.lemmas.Bool.{eqb-true, eq-eqb, ne_eqb}
use Rattle.std.proofs.lemmas.List.FromFn.{get_or-map-range_with_len}
use Rattle.std.proofs.lemmas.Option.{none-some, slice_get_within}
use Rattle.kc_statement.specs.declared.id.SymId.{SymId}
use Rattle.kc_statement.specs.declared.tri.Tri.TheVariants.{Yes}
use Rattle.kc_outline.specs.declared.id.ChoiceId.{ChoiceId}
use Rattle.kc_outline.specs.TreeValue.{TreeValue, SymbolValue, ChoiceValue, choice_of}
use Rattle.kc_tree.specs.declared.node.Node.TheVariants.{Val, Sel}
use Rattle.kc_tree.specs.declared.user_value.UserVal.{UserVal}
use Rattle.kc_tree.specs.declared.user_value.UserVal.TheVariants.{Tri as TriVal}
use Rattle.kc_tree.specs.Accepted.{IsAccepted}
use Rattle.kc_value.specs.declared.value.Value.{Value}
use Rattle.kc_value.specs.Assignment.{as_member}
use Rattle.kc_value.specs.ChangedValue.{changed_value, HoldsValue, HoldsChanges, ChangesAreJustEnough}
use Rattle.kc_value.specs.ChoiceRule.{is_symbol, selected_in}
use Rattle.kc_value.specs.Replay.{shown_in}
use Rattle.kc_value.specs.Solution.{solution}
use Rattle.kc_value.specs.UserValues.{UserValues, user_value, chosen_in, no_values}
use Rattle.kc_files.specs.declared.assign.Assign.{Assign}
use Rattle.kc_files.specs.declared.loading.Load.TheVariants.{Replace}
use Rattle.kc_files.specs.DefaultLoading.{default_assigns}
use Rattle.kc_files.specs.DefaultText.{is_changed_member, default_value}
use Rattle.kc_files.specs.Loading.{last_of, value_for, is_yes, is_member_of, member_for, value_after, chosen_after, user_after}
use Rattle.kc_files.proofs.AssignLists.{given, last_none, last_at, or_none}
use Rattle.kc_files.proofs.SelectedMember.{selected_is_member, changed_is}

within_has : {X : Type 0} (xs : List X) (i : ℕ) → i < length xs → slice_get xs i ≡ None → ⊥
within_has [] i l e = omega (arith, l)
within_has (x ∷ xs) zero l e = none-some x (sym e)
within_has (x ∷ xs) (suc i) l e = within_has xs i (omega (arith, l)) e

-- ---- what a list of assignments leaves
module _ (t : TreeValue) (assigns : List Assign) where
  value_is : (s : SymId) → s.0 < length t.symbols → user_value (user_after t (no_values t) Replace assigns) s ≡ value_after t (no_values t) Replace assigns s
  value_is s inside = get_or-map-range_with_len (λ k. value_after t (no_values t) Replace assigns (record { 0 = k })) 0 (length t.symbols) s.0 s.0 None inside (omega arith)

  -- to a symbol that is no member: what the last of them gives
  pub free_value : (s : SymId) → s.0 < length t.symbols → choice_of t s ≡ None → user_value (user_after t (no_values t) Replace assigns) s ≡ last_of (value_for s) assigns
  free_value s inside e =
      value_is s inside
      ∙ ap (λ (o : Option ChoiceId). if is_some o then None else option_or (last_of (value_for s) assigns) None) e
      ∙ or_none (last_of (value_for s) assigns)

  -- to a member: nothing
  member_value : (s : SymId) (c : ChoiceId) → s.0 < length t.symbols → choice_of t s ≡ Some c → user_value (user_after t (no_values t) Replace assigns) s ≡ None
  member_value s c inside e =
      value_is s inside ∙ ap (λ (o : Option ChoiceId). if is_some o then None else option_or (last_of (value_for s) assigns) None) e

  -- to a choice: the member that the last of them chooses
  pub chosen_is : (c : ChoiceId) → c.0 < length t.choices → chosen_in (user_after t (no_values t) Replace assigns) c ≡ last_of (member_for t c) assigns
  chosen_is c inside =
      get_or-map-range_with_len (λ k. chosen_after t (no_values t) Replace assigns (record { 0 = k })) 0 (length t.choices) c.0 c.0 None inside (omega arith)
      ∙ or_none (last_of (member_for t c) assigns)

module _ (t : TreeValue) (u : UserValues) where
  abbrev shown_change : SymId → Option UserVal
  shown_change s = option_and_then shown_in (changed_value t u (Val s))

  pub default_by : (s : SymId) (o : Option ChoiceId) → choice_of t s ≡ o
      → default_value t u s ≡ option_map_or (λ c. if is_changed_member t u c s then Some (TriVal Yes) else None) o (shown_change s)
  default_by s o e = ap (λ (p : Option ChoiceId). option_map_or (λ c. if is_changed_member t u c s then Some (TriVal Yes) else None) p (shown_change s)) e

  -- ---- the value that the default file gives a symbol
  value_last : (s : SymId) → s.0 < length t.symbols → last_of (value_for s) (default_assigns t u) ≡ default_value t u s
  value_last s inside =
      last_at (default_value t u) (value_for s) s 0 (length t.symbols) (omega arith) (omega (arith, inside)) (λ r low high other. others r other (default_value t u r))
      ∙ own (default_value t u s)
    where
      others : (r : SymId) → r.0 ≢ s.0 → (o : Option UserVal) → option_and_then (value_for s) (option_map (λ v. record { symbol = r; value = v }) o) ≡ None
      others r other None = refl
      others r other (Some v) = ap (λ b. if b then Some v else None) (ne_eqb r.0 s.0 other)

      own : (o : Option UserVal) → option_and_then (value_for s) (option_map (λ v. record { symbol = s; value = v }) o) ≡ o
      own None = refl
      own (Some v) = ap (λ b. if b then Some v else None) (eq-eqb s.0 s.0 refl)

  -- ---- the member that it chooses
  pick : (s : SymId) (same changed : Bool) → option_and_then (λ v. if same && is_yes v then Some s else None) (if changed then Some (TriVal Yes) else None)
      ≡ (if same && changed then Some s else None)
  pick s true true = refl
  pick s true false = refl
  pick s false true = refl
  pick s false false = refl

  nothing : (s : SymId) (o : Option UserVal) → option_and_then (λ v. if false && is_yes v then Some s else None) o ≡ None
  nothing s None = refl
  nothing s (Some v) = refl

  pub member_given : (c : ChoiceId) (s : SymId)
      → option_and_then (member_for t c) (given (default_value t u) s) ≡ (if is_member_of t c s && is_changed_member t u c s then Some s else None)
  member_given c s = by_value (default_value t u s) ∙ by_choice (choice_of t s)
    where
      by_value : (o : Option UserVal) → option_and_then (member_for t c) (option_map (λ v. record { symbol = s; value = v }) o)
          ≡ option_and_then (λ v. if is_member_of t c s && is_yes v then Some s else None) o
      by_value None = refl
      by_value (Some v) = refl

      same_choice : (d : ChoiceId) (b : Bool) → (d.0 == c.0) ≡ b → (b && is_changed_member t u d s) ≡ (b && is_changed_member t u c s)
      same_choice d true e = ap (λ (k : ℕ). is_changed_member t u (record { 0 = k }) s) (eqb-true d.0 c.0 e)
      same_choice d false e = refl

      by_choice : (o : Option ChoiceId)
          → option_and_then (λ v. if option_map_or (λ d. d.0 == c.0) o false && is_yes v then Some s else None)
          (option_map_or (λ d. if is_changed_member t u d s then Some (TriVal Yes) else None) o (shown_change s))
          ≡ (if option_map_or (λ d. d.0 == c.0) o false && is_changed_member t u c s then Some s else None)
      by_choice None = nothing s (shown_change s)
      by_choice (Some d) =
          pick s (d.0 == c.0) (is_changed_member t u d s) ∙ ap (λ b. if b then Some s else None) (same_choice d (d.0 == c.0) refl)

  unchosen : (x y : Bool) (s : SymId) → (if x && (y && false) then Some s else None) ≡ None
  unchosen true true s = refl
  unchosen true false s = refl
  unchosen false y s = refl

  unselected : (x z : Bool) (s : SymId) → (if x && (false && z) then Some s else None) ≡ None
  unselected true z s = refl
  unselected false z s = refl

  module _ (accepted : IsAccepted t) (just : ChangesAreJustEnough t u) where
    member_last : (c : ChoiceId) → c.0 < length t.choices → last_of (member_for t c) (default_assigns t u) ≡ option_and_then as_member (changed_value t u (Sel c))
    member_last c inside = by_change (changed_value t u (Sel c)) refl
      where
        selected_is : (x : ChoiceValue) → slice_get t.choices c.0 ≡ Some x → selected_in t (solution t u) c ≡ as_member (solution t u (Sel c))
        selected_is x placed = ap (λ (o : Option ChoiceValue). option_and_then (λ y. as_member (solution t u (Sel c))) o) placed

        -- by what is selected, where that is a change
        given_by : (o : Option SymId) → selected_in t (solution t u) c ≡ o → (q : Option Value) → changed_value t u (Sel c) ≡ q → (s : SymId)
            → option_and_then (member_for t c) (given (default_value t u) s) ≡ (if is_member_of t c s && (is_symbol o s && is_some q) then Some s else None)
        given_by o e q f s =
            member_given c s
            ∙ ap (λ (p : Option SymId). if is_member_of t c s && (is_symbol p s && is_some (changed_value t u (Sel c))) then Some s else None) e
            ∙ ap (λ (p : Option Value). if is_member_of t c s && (is_symbol o s && is_some p) then Some s else None) f

        own : (m : SymId) → choice_of t m ≡ Some c → (if is_member_of t c m && (is_symbol (Some m) m && true) then Some m else None) ≡ Some m
        own m e =
            ap (λ (o : Option ChoiceId). if option_map_or (λ d. d.0 == c.0) o false && (is_symbol (Some m) m && true) then Some m else None) e
            ∙ ap (λ b. if b && ((m.0 == m.0) && true) then Some m else None) (eq-eqb c.0 c.0 refl)
            ∙ ap (λ b. if b && true then Some m else None) (eq-eqb m.0 m.0 refl)

        has_place : (m : SymId) → choice_of t m ≡ Some c → m.0 < length t.symbols
        has_place m e = go (slice_get t.symbols m.0) refl
          where
            go : (o : Option SymbolValue) → slice_get t.symbols m.0 ≡ o → m.0 < length t.symbols
            go None f = absurd (none-some c (sym (ap (option_and_then (λ (x : SymbolValue). x.choice)) f) ∙ e))
            go (Some x) f = slice_get_within t.symbols m.0 x f

        by_member : (v : Value) → changed_value t u (Sel c) ≡ Some v → (x : ChoiceValue) → slice_get t.choices c.0 ≡ Some x
            → (o : Option SymId) → as_member (solution t u (Sel c)) ≡ o → last_of (member_for t c) (default_assigns t u) ≡ o
        by_member v f x placed None e =
            last_none (default_value t u) (member_for t c) 0 (length t.symbols)
            (λ s low high. given_by None (selected_is x placed ∙ e) (Some v) f s ∙ unselected (is_member_of t c s) true s)
        by_member v f x placed (Some m) e =
            let in_it : choice_of t m ≡ Some c = selected_is_member t u (just.solved u).solves accepted.grouped c x m inside placed e in
            last_at (default_value t u) (member_for t c) m 0 (length t.symbols) (omega arith) (omega (arith, has_place m in_it))
            (λ s low high other.
            given_by (Some m) (selected_is x placed ∙ e) (Some v) f s
            ∙ ap (λ b. if is_member_of t c s && (b && true) then Some s else None) (ne_eqb m.0 s.0 (λ same. other (sym same)))
            ∙ unselected (is_member_of t c s) true s)
            ∙ given_by (Some m) (selected_is x placed ∙ e) (Some v) f m
            ∙ own m in_it

        placed_by : (v : Value) → changed_value t u (Sel c) ≡ Some v → (o : Option ChoiceValue) → slice_get t.choices c.0 ≡ o
            → last_of (member_for t c) (default_assigns t u) ≡ as_member (solution t u (Sel c))
        placed_by v f None e = absurd (within_has t.choices c.0 inside e)
        placed_by v f (Some x) e = by_member v f x e (as_member (solution t u (Sel c))) refl

        by_change : (q : Option Value) → changed_value t u (Sel c) ≡ q → last_of (member_for t c) (default_assigns t u) ≡ option_and_then as_member q
        by_change None f =
            last_none (default_value t u) (member_for t c) 0 (length t.symbols)
            (λ s low high.
            given_by (selected_in t (solution t u) c) refl None f s
            ∙ unchosen (is_member_of t c s) (is_symbol (selected_in t (solution t u) c) s) s)
        by_change (Some v) f = placed_by v f (slice_get t.choices c.0) refl ∙ sym (ap as_member (changed_is t u (Sel c) v f))

    -- ---- they are just what was changed
    pub holds : HoldsChanges t u (user_after t (no_values t) Replace (default_assigns t u))
    holds = record {
      values = λ s inside. by_choice s inside (choice_of t s) refl;
      members = λ c inside. chosen_is t (default_assigns t u) c inside ∙ member_last c inside;
    } where
      by_choice : (s : SymId) → s.0 < length t.symbols → (o : Option ChoiceId) → choice_of t s ≡ o → HoldsValue t u (user_after t (no_values t) Replace (default_assigns t u)) s
      by_choice s inside None e = free_value t (default_assigns t u) s inside e ∙ value_last s inside ∙ default_by s None e
      by_choice s inside (Some c) e =
          member_value t (default_assigns t u) s c inside e
          ∙ sym (ap (option_and_then shown_in) (just.members_not s inside c e))
