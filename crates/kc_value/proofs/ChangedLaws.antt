-- User values that hold just what the user changed have the same solution, and nothing of it can be left out.
use Rattle.std.proofs.Common.{◌≡◌, ◌≢◌, ◌⊎◌, inl, inr, ◌<◌, Bool, true, false, true≢false, not, ◌&&◌, ◌||◌, ◌++◌, ℕ, zero, suc, List, [], ◌∷◌, length, Option, Some, None, slice_get, if◌then◌else◌, refl, sym, ap, ◌∙◌, ⊎_elim}
use Rattle.std.specs.Prelude.{is_some, option_and_then}
use Rattle.std.specs.List.{flat_map}
use Rattle.std.specs.Option.{option_map_or}
use Rattle.std.proofs.lemmas.Option.{slice_get_within}
use Rattle.kc_statement.specs.declared.id.SymId.{SymId}
use Rattle.kc_outline.specs.declared.id.ChoiceId.{ChoiceId}
use Rattle.kc_tree.specs.declared.node.Node.{Node}
use Rattle.kc_tree.specs.declared.node.Node.TheVariants.{Vis, Val, Mode, Sel}
use Rattle.kc_statement.specs.declared.tri.Tri.TheVariants.{No}
use Rattle.kc_tree.specs.declared.user_value.UserVal.{UserVal}
use Rattle.kc_tree.specs.declared.user_value.UserVal.TheVariants.{Text}
use Rattle.kc_tree.specs.Accepted.{IsAccepted}
use Rattle.kc_tree.specs.Fits.{fits}
use Rattle.kc_tree.specs.Nodes.{IsNodeOf}
use Rattle.kc_outline.specs.Grouped.{IsGrouped}
use Rattle.kc_outline.specs.TreeValue.{TreeValue, SymbolValue, ChoiceValue, choice_of}
use Rattle.kc_statement.specs.Tristate.{is_no}
use Rattle.kc_tree.specs.Uses.{mode_nodes, visibility_node, choice_default_nodes}
use Rattle.kc_value.specs.declared.value.Value.{Value}
use Rattle.kc_value.specs.declared.value.Value.TheVariants.{Tri as Level, Member}
use Rattle.kc_value.specs.Assignment.{Assignment, as_tri, as_member}
use Rattle.kc_value.specs.ChangedValue.{same_value, changed_value, HoldsValue, HoldsMember, HoldsChanges, is_mode, SameOwned, ChangesAreJustEnough}
use Rattle.kc_value.specs.Dirty.{is_changed, same_given}
use Rattle.kc_value.specs.UserValues.{UserValues, IsUserFor, user_value, chosen_in}
use Rattle.kc_value.specs.ExprValue.{yes_if}
use Rattle.kc_value.specs.Conditions.{choice_prompt_value}
use Rattle.kc_value.specs.ChoiceRule.{mode, selection}
use Rattle.kc_value.specs.Rule.{rule, visibility, symbol_rule}
use Rattle.kc_value.specs.Solution.{applied, solution}
use Rattle.kc_value.specs.Without.{user_without, is_optional_choice, value_without}
use Rattle.kc_value.specs.Replay.{shown_in}
use Rattle.kc_value.proofs.Agreement.{Agree, of_selection_agrees, rule_user}
use Rattle.kc_value.proofs.ModeLaws.{IsNoMode, members_hold, defaults_hold, mode_past_modes, value_past_modes}
use Rattle.kc_value.proofs.ReadNodes.{append_holds, agree_where}
use Rattle.kc_value.proofs.EnoughLaws.{moved, moved_solves, selects_nothing}
use Rattle.kc_value.proofs.FittingLaws.{rule_fits, rule_text}
use Rattle.kc_value.proofs.ReplayLaws.{value_replayed, selection_replayed}
use Rattle.kc_value.proofs.SameLaws.{same_is}
use Rattle.kc_value.proofs.SlotLemmas.{none_set}
use Rattle.kc_value.proofs.SolutionLaws.{one_solution}
use Rattle.kc_value.proofs.VisibilityLaws.{visibilities_same}

-- ---- nodes that the tree doesn't have
module _ (t : TreeValue) (u : UserValues) where
  past_vis : (s : SymId) → slice_get t.symbols s.0 ≡ None → (k : ℕ) → applied t u k (Vis s) ≡ Level No
  unfolding applied rule
  past_vis s e zero = refl
  past_vis s e (suc k) = ap (λ (o : Option SymbolValue). option_map_or (λ x. Level (visibility t (applied t u k) x)) o (Level No)) e

  past_val : (s : SymId) → slice_get t.symbols s.0 ≡ None → (k : ℕ) → applied t u k (Val s) ≡ Level No
  unfolding applied rule
  past_val s e zero = refl
  past_val s e (suc k) = ap (λ (o : Option SymbolValue). option_map_or (λ x. symbol_rule t (applied t u k) s x (as_tri (applied t u k (Vis s))) (user_value u s)) o (Level No)) e

  past_sel : (c : ChoiceId) → slice_get t.choices c.0 ≡ None → (k : ℕ) → applied t u k (Sel c) ≡ Level No
  unfolding applied rule
  past_sel c e zero = refl
  past_sel c e (suc k) = ap (λ (o : Option ChoiceValue). option_map_or (λ x. Member (selection t (applied t u k) c x (chosen_in u c))) o (Level No)) e

-- solutions that agree on all nodes of the tree but modes agree on all nodes but modes
everywhere : (t : TreeValue) (u w : UserValues) → ((n : Node) → IsNodeOf t n → is_mode n ≡ false → solution t w n ≡ solution t u n)
    → (n : Node) → is_mode n ≡ false → solution t w n ≡ solution t u n
unfolding solution
everywhere t u w same (Vis s) h = go (slice_get t.symbols s.0) refl
  where
    go : (o : Option SymbolValue) → slice_get t.symbols s.0 ≡ o → solution t w (Vis s) ≡ solution t u (Vis s)
    go None e = past_vis t w s e _ ∙ sym (past_vis t u s e _)
    go (Some x) e = same (Vis s) (slice_get_within t.symbols s.0 x e) h
everywhere t u w same (Val s) h = go (slice_get t.symbols s.0) refl
  where
    go : (o : Option SymbolValue) → slice_get t.symbols s.0 ≡ o → solution t w (Val s) ≡ solution t u (Val s)
    go None e = past_val t w s e _ ∙ sym (past_val t u s e _)
    go (Some x) e = same (Val s) (slice_get_within t.symbols s.0 x e) h
everywhere t u w same (Mode c) h = absurd (true≢false h)
everywhere t u w same (Sel c) h = go (slice_get t.choices c.0) refl
  where
    go : (o : Option ChoiceValue) → slice_get t.choices c.0 ≡ o → solution t w (Sel c) ≡ solution t u (Sel c)
    go None e = past_sel t w c e _ ∙ sym (past_sel t u c e _)
    go (Some x) e = same (Sel c) (slice_get_within t.choices c.0 x e) h

-- ---- rules and what they read
same_value_rule : (t : TreeValue) (u w : UserValues) (a : Assignment) (s : SymId) → user_value u s ≡ user_value w s → rule t u a (Val s) ≡ rule t w a (Val s)
unfolding rule
same_value_rule t u w a s e = ap (λ v. option_map_or (λ x. symbol_rule t a s x (as_tri (a (Vis s))) v) (slice_get t.symbols s.0) (Level No)) e

same_selection_rule : (t : TreeValue) (u w : UserValues) (a : Assignment) (c : ChoiceId) → chosen_in u c ≡ chosen_in w c → rule t u a (Sel c) ≡ rule t w a (Sel c)
unfolding rule
same_selection_rule t u w a c e = ap (λ m. option_map_or (λ x. Member (selection t a c x m)) (slice_get t.choices c.0) (Level No)) e

plain_in : (p optional : Bool) (m n : Option SymId) → optional ≡ false → yes_if (p && (not optional || is_some m)) ≡ yes_if (p && (not optional || is_some n))
plain_in p optional m n e = ap (λ o. yes_if (p && (not o || is_some m))) e ∙ sym (ap (λ o. yes_if (p && (not o || is_some n))) e)

-- the mode of a choice that is not optional is read from no user value
plain_mode : (t : TreeValue) (u w : UserValues) (a : Assignment) (c : ChoiceId) → is_optional_choice t c ≡ false → rule t w a (Mode c) ≡ rule t u a (Mode c)
unfolding rule
plain_mode t u w a c plain = go (slice_get t.choices c.0) plain
  where
    go : (o : Option ChoiceValue) → option_map_or (λ x. x.is_optional) o false ≡ false
        → option_map_or (λ x. Level (mode t a x (chosen_in w c))) o (Level No) ≡ option_map_or (λ x. Level (mode t a x (chosen_in u c))) o (Level No)
    go None e = refl
    go (Some x) e = ap Level (plain_in (not (is_no (choice_prompt_value t a x))) x.is_optional (chosen_in w c) (chosen_in u c) e)

Agree-append : (a b : Assignment) (xs ys : List Node) → Agree a b xs → Agree a b ys → Agree a b (xs ++ ys)
Agree-append a b [] ys h k = k
Agree-append a b (x ∷ xs) ys h k = (h.0, Agree-append a b xs ys h.1 k)

selection_past_modes : (t : TreeValue) (u : UserValues) (a b : Assignment) (c : ChoiceId) → ((n : Node) → is_mode n ≡ false → a n ≡ b n) → a (Mode c) ≡ b (Mode c)
    → rule t u a (Sel c) ≡ rule t u b (Sel c)
unfolding rule
selection_past_modes t u a b c same mode_same = go (slice_get t.choices c.0) refl
  where
    own : (o : Option ChoiceValue) → Agree a b (option_map_or (λ x. Mode c ∷ []) o [])
    own None = tt
    own (Some x) = (mode_same, tt)

    go : (o : Option ChoiceValue) → slice_get t.choices c.0 ≡ o
        → option_map_or (λ x. Member (selection t a c x (chosen_in u c))) o (Level No) ≡ option_map_or (λ x. Member (selection t b c x (chosen_in u c))) o (Level No)
    go None e = refl
    go (Some x) e =
        let ms = flat_map (visibility_node t) x.members in
        let ds = flat_map (choice_default_nodes t) x.defaults in
        of_selection_agrees a b t c (chosen_in u c) (Some x) e
        (Agree-append a b (mode_nodes t c) (ms ++ ds) (own (slice_get t.choices c.0))
        (agree_where IsNoMode a b same (ms ++ ds) (append_holds IsNoMode ms ds (members_hold t x.members) (defaults_hold t x.defaults))))

-- ---- what was changed
-- nothing, where the value is that without the user's own
unchanged : (t : TreeValue) (u : UserValues) (n : Node) → solution t u n ≡ value_without t u n → changed_value t u n ≡ None
unfolding changed_value
unchanged t u n e = ap (λ b. if b then None else Some (solution t u n)) ((same_is (solution t u n) (value_without t u n)).1 e)

-- the value, where it is another; or nothing, where it is the same
changed_or_not : (t : TreeValue) (u : UserValues) (n : Node)
    → ((solution t u n ≢ value_without t u n) × (changed_value t u n ≡ Some (solution t u n)))
    ⊎ ((solution t u n ≡ value_without t u n) × (changed_value t u n ≡ None))
unfolding changed_value
changed_or_not t u n = go (same_value (solution t u n) (value_without t u n)) refl
  where
    go : (b : Bool) → same_value (solution t u n) (value_without t u n) ≡ b
        → ((solution t u n ≢ value_without t u n) × ((if b then None else Some (solution t u n)) ≡ Some (solution t u n)))
        ⊎ ((solution t u n ≡ value_without t u n) × ((if b then None else Some (solution t u n)) ≡ None))
    go true e = inr ((same_is (solution t u n) (value_without t u n)).0 e, refl)
    go false e = inl ((λ same. true≢false (sym ((same_is (solution t u n) (value_without t u n)).1 same) ∙ e)), refl)

-- ---- what is held of it
-- for each symbol its shown value where it was changed, and nothing elsewhere
abbrev HasValue : TreeValue → UserValues → UserValues → SymId → Type 0
HasValue t u w s =
    ((solution t u (Val s) ≢ value_without t u (Val s)) × (user_value w s ≡ shown_in (solution t u (Val s))))
    ⊎ ((solution t u (Val s) ≡ value_without t u (Val s)) × (user_value w s ≡ None))

has_value : (t : TreeValue) (u w : UserValues) (s : SymId) → HoldsValue t u w s → HasValue t u w s
has_value t u w s h =
    ⊎_elim (λ c. inl (c.0, h ∙ ap (option_and_then shown_in) c.1)) (λ c. inr (c.0, h ∙ ap (option_and_then shown_in) c.1)) (changed_or_not t u (Val s))

-- for each choice its selection where it was changed, and none elsewhere
abbrev HasMember : TreeValue → UserValues → UserValues → ChoiceId → Type 0
HasMember t u w c =
    ((solution t u (Sel c) ≢ value_without t u (Sel c)) × (chosen_in w c ≡ as_member (solution t u (Sel c))))
    ⊎ ((solution t u (Sel c) ≡ value_without t u (Sel c)) × (chosen_in w c ≡ None))

has_member : (t : TreeValue) (u w : UserValues) (c : ChoiceId) → HoldsMember t u w c → HasMember t u w c
has_member t u w c h =
    ⊎_elim (λ k. inl (k.0, h ∙ ap (option_and_then as_member) k.1)) (λ k. inr (k.0, h ∙ ap (option_and_then as_member) k.1)) (changed_or_not t u (Sel c))

-- ---- the two laws
module _ (t : TreeValue) (u w : UserValues) (accepted : IsAccepted t) (grouped : IsGrouped t) where
  without_value : (s : SymId) → user_value (user_without u (Val s)) s ≡ None
  without_value s = none_set u.values s.0

  without_member : (c : ChoiceId) → chosen_in (user_without u (Sel c)) c ≡ None
  without_member c = none_set u.chosen c.0

  value_stays : (s : SymId) → s.0 < length t.symbols → HasValue t u w s → rule t w (solution t u) (Val s) ≡ solution t u (Val s)
  unfolding value_without
  value_stays s node (inl p) =
      ⊎_elim (λ same. absurd (p.0 same)) (λ again. again)
      (value_replayed t u w (user_without u (Val s)) (solution t u) s ((one_solution t u accepted).solves (Val s) node) (without_value s) p.1)
  value_stays s node (inr p) = same_value_rule t w (user_without u (Val s)) (solution t u) s (p.1 ∙ sym (without_value s)) ∙ sym p.0

  -- an optional choice has its selection as chosen member, line or no line
  optional_member : (c : ChoiceId) → is_optional_choice t c ≡ true → HasMember t u w c → chosen_in w c ≡ as_member (solution t u (Sel c))
  unfolding value_without
  optional_member c optional (inl p) = p.1
  optional_member c optional (inr p) =
      p.1 ∙ sym (ap as_member (p.0 ∙ ap (λ b. if b then Member None else rule t (user_without u (Sel c)) (solution t u) (Sel c)) optional))

  selection_stays : (c : ChoiceId) → c.0 < length t.choices → HasMember t u w c → rule t w (solution t u) (Sel c) ≡ solution t u (Sel c)
  unfolding value_without
  selection_stays c node (inl p) = selection_replayed t u w (solution t u) c ((one_solution t u accepted).solves (Sel c) node) p.1
  selection_stays c node (inr p) = go (is_optional_choice t c) refl
    where
      go : (b : Bool) → is_optional_choice t c ≡ b → rule t w (solution t u) (Sel c) ≡ solution t u (Sel c)
      go true e = selection_replayed t u w (solution t u) c ((one_solution t u accepted).solves (Sel c) node) (optional_member c e (inr p))
      go false e =
          same_selection_rule t w (user_without u (Sel c)) (solution t u) c (p.1 ∙ sym (without_member c))
          ∙ sym (p.0 ∙ ap (λ b. if b then Member None else rule t (user_without u (Sel c)) (solution t u) (Sel c)) e)

  module _ (held : HoldsChanges t u w) where
    choice_given : (c : ChoiceId) (y : ChoiceValue) → slice_get t.choices c.0 ≡ Some y → (y.is_optional ≡ false) ⊎ (chosen_in w c ≡ as_member (solution t u (Sel c)))
    choice_given c y placed = go y.is_optional refl
      where
        go : (b : Bool) → y.is_optional ≡ b → (y.is_optional ≡ false) ⊎ (chosen_in w c ≡ as_member (solution t u (Sel c)))
        go false e = inl e
        go true e =
            inr (optional_member c (ap (λ (o : Option ChoiceValue). option_map_or (λ x. x.is_optional) o false) placed ∙ e)
            (has_member t u w c (held.members c (slice_get_within t.choices c.0 y placed))))

    moved_is : (n : Node) → IsNodeOf t n → moved t w (solution t u) n ≡ solution t w n
    moved_is n node =
        (one_solution t w accepted).only (moved t w (solution t u))
        (moved_solves t u (solution t u) grouped (one_solution t u accepted).solves w choice_given (λ s h. value_stays s h (has_value t u w s (held.values s h))) (λ c h. selection_stays c h (has_member t u w c (held.members c h))))
        n node

    -- they are enough
    changes_suffice : (n : Node) → IsNodeOf t n → is_mode n ≡ false → solution t w n ≡ solution t u n
    changes_suffice (Vis s) node h = sym (moved_is (Vis s) node)
    changes_suffice (Val s) node h = sym (moved_is (Val s) node)
    changes_suffice (Mode c) node h = absurd (true≢false h)
    changes_suffice (Sel c) node h = sym (moved_is (Sel c) node)

    -- modes too, but of optional choices
    modes_stay : (c : ChoiceId) → IsNodeOf t (Mode c) → is_optional_choice t c ≡ false → solution t w (Mode c) ≡ solution t u (Mode c)
    modes_stay c node plain = sym (moved_is (Mode c) node) ∙ plain_mode t u w (solution t u) c plain ∙ sym ((one_solution t u accepted).solves (Mode c) node)

  -- none is too many: user values without it have another solution
  module _ (same : (n : Node) → IsNodeOf t n → is_mode n ≡ false → solution t w n ≡ solution t u n) where
    value_needed : (s : SymId) → s.0 < length t.symbols → user_value w s ≡ None → solution t u (Val s) ≡ value_without t u (Val s)
    unfolding value_without
    value_needed s node none =
        sym (same (Val s) node refl)
        ∙ (one_solution t w accepted).solves (Val s) node
        ∙ value_past_modes t w (solution t w) (solution t u) s (everywhere t u w same)
        ∙ same_value_rule t w (user_without u (Val s)) (solution t u) s (none ∙ sym (without_value s))

    optional_none : (c : ChoiceId) (y : ChoiceValue) → slice_get t.choices c.0 ≡ Some y → y.is_optional ≡ true → chosen_in w c ≡ None → solution t w (Sel c) ≡ Member None
    unfolding rule
    optional_none c y placed optional none =
        let node : c.0 < length t.choices = slice_get_within t.choices c.0 y placed in
        let p : Bool = not (is_no (choice_prompt_value t (solution t w) y)) in
        let off : as_tri (solution t w (Mode c)) ≡ No =
        ap as_tri ((one_solution t w accepted).solves (Mode c) node ∙ ap (λ (o : Option ChoiceValue). option_map_or (λ x. Level (mode t (solution t w) x (chosen_in w c))) o (Level No)) placed)
        ∙ ap (λ m. yes_if (p && (not y.is_optional || is_some m))) none
        ∙ ap (λ b. yes_if (p && (not b || false))) optional
        ∙ and_no p
        in
        (one_solution t w accepted).solves (Sel c) node
        ∙ ap (λ (o : Option ChoiceValue). option_map_or (λ x. Member (selection t (solution t w) c x (chosen_in w c))) o (Level No)) placed
        ∙ ap Member (selects_nothing t w (solution t w) grouped (one_solution t w accepted).solves c y placed (chosen_in w c) off)
      where
        and_no : (b : Bool) → yes_if (b && false) ≡ No
        and_no true = refl
        and_no false = refl

    member_needed : (c : ChoiceId) → c.0 < length t.choices → chosen_in w c ≡ None → solution t u (Sel c) ≡ value_without t u (Sel c)
    unfolding value_without
    member_needed c node none = go (slice_get t.choices c.0) refl
      where
        plain : is_optional_choice t c ≡ false → solution t u (Sel c) ≡ value_without t u (Sel c)
        plain e =
            let modes : solution t w (Mode c) ≡ solution t u (Mode c) =
            (one_solution t w accepted).solves (Mode c) node
            ∙ mode_past_modes t w (solution t w) (solution t u) c (everywhere t u w same)
            ∙ plain_mode t u w (solution t u) c e
            ∙ sym ((one_solution t u accepted).solves (Mode c) node)
            in
            sym (same (Sel c) node refl)
            ∙ (one_solution t w accepted).solves (Sel c) node
            ∙ selection_past_modes t w (solution t w) (solution t u) c (everywhere t u w same) modes
            ∙ same_selection_rule t w (user_without u (Sel c)) (solution t u) c (none ∙ sym (without_member c))
            ∙ sym (ap (λ b. if b then Member None else rule t (user_without u (Sel c)) (solution t u) (Sel c)) e)

        one : (y : ChoiceValue) → slice_get t.choices c.0 ≡ Some y → (b : Bool) → y.is_optional ≡ b → solution t u (Sel c) ≡ value_without t u (Sel c)
        one y placed false e = plain (ap (λ (o : Option ChoiceValue). option_map_or (λ x. x.is_optional) o false) placed ∙ e)
        one y placed true e =
            sym (same (Sel c) node refl)
            ∙ optional_none c y placed e none
            ∙ sym (ap (λ b. if b then Member None else rule t (user_without u (Sel c)) (solution t u) (Sel c)) (ap (λ (o : Option ChoiceValue). option_map_or (λ x. x.is_optional) o false) placed ∙ e))

        go : (o : Option ChoiceValue) → slice_get t.choices c.0 ≡ o → solution t u (Sel c) ≡ value_without t u (Sel c)
        go None e = plain (ap (λ (o : Option ChoiceValue). option_map_or (λ x. x.is_optional) o false) e)
        go (Some y) e = one y e y.is_optional refl

-- solutions that agree on all values and selections of the tree agree on all its visibilities too
owned_tell : (t : TreeValue) (u w : UserValues) → IsAccepted t → IsGrouped t → SameOwned t u w
    → (n : Node) → IsNodeOf t n → is_mode n ≡ false → solution t w n ≡ solution t u n
unfolding solution
owned_tell t u w accepted grouped same (Vis s) node h =
    visibilities_same t w u (solution t w) (solution t u) grouped (one_solution t w accepted).solves (one_solution t u accepted).solves (λ r. go r (slice_get t.symbols r.0) refl) s node
  where
    go : (r : SymId) (o : Option SymbolValue) → slice_get t.symbols r.0 ≡ o → solution t w (Val r) ≡ solution t u (Val r)
    go r None e = past_val t w r e _ ∙ sym (past_val t u r e _)
    go r (Some x) e = same (Val r) (slice_get_within t.symbols r.0 x e) tt
owned_tell t u w accepted grouped same (Val s) node h = same (Val s) node tt
owned_tell t u w accepted grouped same (Mode c) node h = absurd (true≢false h)
owned_tell t u w accepted grouped same (Sel c) node h = same (Sel c) node tt

-- what a changed value meets, where its rule's value and that without a user value are others
module _ (t : TreeValue) (u : UserValues) (accepted : IsAccepted t) (s : SymId) (node : IsNodeOf t (Val s)) where
  abbrev by_rule : Option UserVal → Value
  by_rule v = option_map_or (λ x. symbol_rule t (solution t u) s x (as_tri (solution t u (Vis s))) v) (slice_get t.symbols s.0) (Level No)

  changed_by_rule : (P : UserVal → Type 0) (v : UserVal) → (shown_in (by_rule (user_value u s)) ≡ Some v → by_rule (user_value u s) ≢ by_rule None → P v)
      → option_and_then shown_in (changed_value t u (Val s)) ≡ Some v → P v
  unfolding rule value_without
  changed_by_rule P v of_rule is =
      let now : solution t u (Val s) ≡ by_rule (user_value u s) = (one_solution t u accepted).solves (Val s) node in
      let alone : value_without t u (Val s) ≡ by_rule None = ap by_rule (none_set u.values s.0) in
      ⊎_elim
      (λ other. of_rule (sym (ap shown_in now) ∙ sym (ap (option_and_then shown_in) other.1) ∙ is) (λ same. other.0 (now ∙ same ∙ sym alone)))
      (λ none. absurd (true≢false (sym (ap is_some (sym (ap (option_and_then shown_in) none.1) ∙ is)))))
      (changed_or_not t u (Val s))

  -- a changed value of a symbol is one that it takes
  changed_fits : IsUserFor t u → (v : UserVal) → option_and_then shown_in (changed_value t u (Val s)) ≡ Some v → fits t s v ≡ true
  changed_fits user v is = changed_by_rule (λ w. fits t s w ≡ true) v (rule_fits t u (solution t u) s user (slice_get t.symbols s.0) refl v) is

  -- a changed text is the user's own
  changed_text : (text : List ℕ) → option_and_then shown_in (changed_value t u (Val s)) ≡ Some (Text text) → user_value u s ≡ Some (Text text)
  changed_text text is = changed_by_rule (λ w. user_value u s ≡ Some w) (Text text) (rule_text t u (solution t u) s (slice_get t.symbols s.0) text) is

-- no value of a member of a choice is changed, since its rule reads no user value
member_unchanged : (t : TreeValue) (u : UserValues) → IsAccepted t → (s : SymId) → IsNodeOf t (Val s) → (c : ChoiceId) → choice_of t s ≡ Some c
    → changed_value t u (Val s) ≡ None
unfolding value_without
member_unchanged t u accepted s node c e =
    let w : UserValues = user_without u (Val s) in
    let same : is_changed t u w (Val s) ≡ false = ap (λ o. not (is_some o) && not (same_given (user_value u s) (user_value w s))) e in
    unchanged t u (Val s) ((one_solution t u accepted).solves (Val s) node ∙ rule_user t u w (solution t u) (Val s) same)

-- what was changed is just enough
pub just_enough : (t : TreeValue) (u : UserValues) → IsAccepted t → ChangesAreJustEnough t u
just_enough t u accepted = let grouped = accepted.grouped in record {
  solved = λ w. one_solution t w accepted;
  members_not = member_unchanged t u accepted;
  fitting = λ user s node v is. changed_fits t u accepted s node user v is;
  texts = λ s node text is. changed_text t u accepted s node text is;
  enough = λ w held. changes_suffice t u w accepted grouped held;
  modes = λ w held. modes_stay t u w accepted grouped held;
  needed = λ w same s node none.
      unchanged t u (Val s) (value_needed t u w accepted grouped (owned_tell t u w accepted grouped same) s node none);
  needed_members = λ w same c node none.
      unchanged t u (Sel c) (member_needed t u w accepted grouped (owned_tell t u w accepted grouped same) c node none);
}
