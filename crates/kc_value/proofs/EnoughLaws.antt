-- User values that hold what differs from the values without have the same solution, but for modes of optional choices.
use Rattle.std.proofs.Common.{◌≡◌, ◌<◌, length, ◌⊎◌, inl, inr, Bool, true, false, true≢false, not, ◌&&◌, ◌||◌, ◌==◌, ℕ, List, [], ◌∷◌, map, Option, Some, None, find, slice_get, if◌then◌else◌, refl, sym, ap, ◌∙◌, cond, ⊎_elim}
use Rattle.std.specs.Prelude.{is_some, option_and_then}
use Rattle.std.specs.List.{AllByRecursion, flat_map, filter_map, cons_option, list_any}
use Rattle.std.specs.Option.{option_map_or, option_or}
use Rattle.std.proofs.lemmas.Bool.{eqb-true}
use Rattle.std.proofs.lemmas.Option.{slice_get_within}
use Rattle.kc_statement.specs.declared.id.SymId.{SymId}
use Rattle.kc_outline.specs.declared.id.ChoiceId.{ChoiceId}
use Rattle.kc_outline.specs.declared.choice.ChoiceDefault.{ChoiceDefault}
use Rattle.kc_tree.specs.declared.node.Node.{Node}
use Rattle.kc_tree.specs.declared.node.Node.TheVariants.{Vis, Val, Mode, Sel}
use Rattle.kc_statement.specs.declared.tri.Tri.{Tri}
use Rattle.kc_statement.specs.declared.tri.Tri.TheVariants.{No, Module, Yes}
use Rattle.kc_tree.specs.Nodes.{IsNodeOf}
use Rattle.kc_outline.specs.Grouped.{IsGrouped}
use Rattle.kc_outline.specs.TreeValue.{TreeValue, SymbolValue, ChoiceValue, choice_of, definitions_of}
use Rattle.kc_tree.specs.Uses.{type_nodes, prompt_nodes}
use Rattle.kc_statement.specs.Tristate.{least, greatest_of, is_no}
use Rattle.kc_value.specs.declared.value.Value.TheVariants.{Tri as Level, Member}
use Rattle.kc_value.specs.Assignment.{Assignment, as_tri, as_member}
use Rattle.kc_value.specs.UserValues.{UserValues, chosen_in}
use Rattle.kc_value.specs.ExprValue.{yes_if, own_condition}
use Rattle.kc_value.specs.Conditions.{prompt_value, mode_around, choice_prompt_value}
use Rattle.kc_value.specs.ChoiceRule.{mode, is_visible, is_symbol, visible_if, default_member, selection}
use Rattle.kc_value.specs.Rule.{rule, in_type, has_modules, visibility}
use Rattle.kc_value.specs.Solution.{IsSolution}
use Rattle.kc_value.specs.ChangedValue.{is_mode}
use Rattle.kc_value.proofs.Agreement.{has_modules_agrees, prompt_agrees, map_agrees}
use Rattle.kc_value.proofs.ModeLaws.{IsNoMode, value_is_none, mode_past_modes, value_past_modes, default_members_past_modes}
use Rattle.kc_value.proofs.ReadNodes.{agree_where, type_holds, prompts_holds}

-- an assignment with the modes that other user values give
abbrev pub moved : TreeValue → UserValues → Assignment → Assignment
moved t w a (Vis s) = a (Vis s)
moved t w a (Val s) = a (Val s)
moved t w a (Mode c) = rule t w a (Mode c)
moved t w a (Sel c) = a (Sel c)

-- ---- truth values, lists
and_false : (x : Bool) → (x && false) ≡ false
and_false true = refl
and_false false = refl

is_no_of : (v : Tri) → not (is_no v) ≡ false → v ≡ No
is_no_of No h = refl
is_no_of Module h = absurd (true≢false h)
is_no_of Yes h = absurd (true≢false h)

least_no : (g : Tri) → least g No ≡ No
least_no No = refl
least_no Module = refl
least_no Yes = refl

in_type_no : (b : Bool) → in_type b No ≡ No
in_type_no true = refl
in_type_no false = refl

last_none : {X : Type 0} (o p : Option X) → option_or o p ≡ None → p ≡ None
last_none None p h = h
last_none (Some x) p h = absurd (true≢false (ap is_some h))

none_if : {X : Type 0} (b : Bool) (o : Option X) → o ≡ None → (if b then None else o) ≡ None
none_if true o h = refl
none_if false o h = h

all_map : {X : Type 0} (P Q : X → Type 0) → ((x : X) → P x → Q x) → (xs : List X) → AllByRecursion P xs → AllByRecursion Q xs
all_map P Q f [] h = tt
all_map P Q f (x ∷ xs) h = (f x h.0, all_map P Q f xs h.1)

find_fails : {X : Type 0} (p : X → Bool) (xs : List X) → AllByRecursion (λ x. p x ≡ false) xs → find p xs ≡ None
find_fails p [] h = refl
find_fails p (x ∷ xs) h = ap (λ b. cond b (Some x) (find p xs)) h.0 ∙ find_fails p xs h.1

failed : {X : Type 0} (p : X → Bool) (xs : List X) → find p xs ≡ None → AllByRecursion (λ x. p x ≡ false) xs
failed p [] h = tt
failed p (x ∷ xs) h = go (p x) refl (failed p xs) h
  where
    go : (b : Bool) → p x ≡ b → (find p xs ≡ None → AllByRecursion (λ y. p y ≡ false) xs) → cond b (Some x) (find p xs) ≡ None → AllByRecursion (λ y. p y ≡ false) (x ∷ xs)
    go true e more k = absurd (true≢false (ap is_some k))
    go false e more k = (e, more k)

both_fail : {X : Type 0} (q p : X → Bool) (xs : List X) → find p xs ≡ None → find (λ x. q x && p x) xs ≡ None
both_fail q p xs h = find_fails (λ x. q x && p x) xs (all_map (λ x. p x ≡ false) (λ x. (q x && p x) ≡ false) (λ x e. ap (λ b. q x && b) e ∙ and_false (q x)) xs (failed p xs h))

listed_fails : (p : SymId → Bool) (s : SymId) (ms : List SymId) → list_any (λ m. m.0 == s.0) ms ≡ true → AllByRecursion (λ m. p m ≡ false) ms → p s ≡ false
listed_fails p s [] any h = absurd (true≢false (sym any))
listed_fails p s (m ∷ ms) any h = go (m.0 == s.0) refl (λ k. listed_fails p s ms k h.1) any
  where
    go : (b : Bool) → (m.0 == s.0) ≡ b → (list_any (λ k. k.0 == s.0) ms ≡ true → p s ≡ false) → (b || list_any (λ k. k.0 == s.0) ms) ≡ true → p s ≡ false
    go true e more k = ap (λ (n : ℕ). p (record { 0 = n })) (sym (eqb-true m.0 s.0 e)) ∙ h.0
    go false e more k = more k

no_items : {X Y : Type 0} (f : X → Option Y) (xs : List X) → AllByRecursion (λ x. f x ≡ None) xs → filter_map f xs ≡ []
no_items f [] h = refl
no_items f (x ∷ xs) h = ap (λ o. cons_option o (filter_map f xs)) h.0 ∙ no_items f xs h.1

-- ---- modes
abbrev mode_in : Bool → Bool → Option SymId → Tri
mode_in p optional chosen = yes_if (p && (not optional || is_some chosen))

-- with the selection as chosen member the mode is the same, or n where nothing is selected
mode_moves : (p optional : Bool) (chosen selected : Option SymId) → (mode_in p optional chosen ≡ No → selected ≡ None)
    → (mode_in p optional selected ≡ mode_in p optional chosen) ⊎ ((mode_in p optional selected ≡ No) × (selected ≡ None))
mode_moves false optional chosen selected h = inl refl
mode_moves true false chosen selected h = inl refl
mode_moves true true chosen None h = inr (refl, refl)
mode_moves true true (Some r) (Some m) h = inl refl
mode_moves true true None (Some m) h = absurd (true≢false (ap is_some (h refl)))

module _ (t : TreeValue) (u : UserValues) (a : Assignment) (grouped : IsGrouped t) (solves : IsSolution t u a) where
  level_of : (s : SymId) (x : SymbolValue) → slice_get t.symbols s.0 ≡ Some x → as_tri (a (Vis s)) ≡ visibility t a x
  unfolding rule
  level_of s x found =
      ap as_tri (solves (Vis s) (slice_get_within t.symbols s.0 x found) ∙ ap (λ o. option_map_or (λ y. Level (visibility t a y)) o (Level No)) found)

  visible_is : (s : SymId) (o : Option SymbolValue) → slice_get t.symbols s.0 ≡ o → is_visible t a s ≡ option_map_or (λ x. not (is_no (as_tri (a (Vis s))))) o false
  visible_is s o e = ap (λ (p : Option SymbolValue). option_map_or (λ x. not (is_no (as_tri (a (Vis s))))) p false) e

  module _ (c : ChoiceId) (y : ChoiceValue) (placed : slice_get t.choices c.0 ≡ Some y) where
    around : (b : Assignment) (o : Option ChoiceId) → o ≡ Some c → mode_around t b o ≡ as_tri (b (Mode c))
    around b o e = ap (mode_around t b) e ∙ ap (λ (p : Option ChoiceValue). option_map_or (λ x. as_tri (b (Mode c))) p Yes) placed

    -- with mode n a member is invisible
    member_fades : (b : Assignment) (x : SymbolValue) → x.choice ≡ Some c → as_tri (b (Mode c)) ≡ No → visibility t b x ≡ No
    member_fades b x e off =
        let g = greatest_of (map (prompt_value t b) (definitions_of t x)) in
        ap (λ m. in_type (has_modules t b x) (least g m)) (around b x.choice e ∙ off)
        ∙ ap (in_type (has_modules t b x)) (least_no g)
        ∙ in_type_no (has_modules t b x)

    member_unseen : as_tri (a (Mode c)) ≡ No → (s : SymId) → choice_of t s ≡ Some c → is_visible t a s ≡ false
    member_unseen off s e = go (slice_get t.symbols s.0) refl
      where
        go : (o : Option SymbolValue) → slice_get t.symbols s.0 ≡ o → is_visible t a s ≡ false
        go None f = visible_is s None f
        go (Some x) f =
            let mine : x.choice ≡ Some c = sym (ap (λ (p : Option SymbolValue). option_and_then (λ z. z.choice) p) f) ∙ e in
            visible_is s (Some x) f ∙ ap (λ v. not (is_no v)) (level_of s x f ∙ member_fades a x mine off)

    unseen_default : as_tri (a (Mode c)) ≡ No → (active : Bool) (o : Option SymId) → option_and_then (choice_of t) o ≡ Some c → visible_if t active a o ≡ None
    unseen_default off active None e = refl
    unseen_default off active (Some m) e = ap (λ b. if active && b then Some m else None) (member_unseen off m e) ∙ ap (λ b. if b then Some m else None) (and_false active)

    -- .. and nothing is selected
    pub selects_nothing : (chosen : Option SymId) → as_tri (a (Mode c)) ≡ No → selection t a c y chosen ≡ None
    selects_nothing chosen off =
        let defaults : filter_map (default_member t a) y.defaults ≡ [] =
        no_items (default_member t a) y.defaults
        (all_map (λ (d : ChoiceDefault). option_and_then (choice_of t) d.symbol ≡ Some c) (λ d. default_member t a d ≡ None) (λ d e. unseen_default off (not (is_no (own_condition t a d.condition))) d.symbol e) y.defaults (grouped.defaults c y placed))
        in
        let members : find (is_visible t a) y.members ≡ None =
        find_fails (is_visible t a) y.members (all_map (λ s. choice_of t s ≡ Some c) (λ s. is_visible t a s ≡ false) (λ s e. member_unseen off s e) y.members (grouped.members c y placed))
        in
        let chosen_is = find (λ s. is_symbol chosen s && is_visible t a s) y.members in
        ap (λ v. option_or (if is_no v then None else chosen_is) (option_or (slice_get (filter_map (default_member t a) y.defaults) 0) (find (is_visible t a) y.members))) off
        ∙ ap (λ (ds : List SymId). option_or (slice_get ds 0) (find (is_visible t a) y.members)) defaults
        ∙ members

    -- the mode under user values that have the selection as chosen member, or in a choice that is not optional
    mode_kept : (w : UserValues) → (y.is_optional ≡ false) ⊎ (chosen_in w c ≡ as_member (a (Sel c)))
        → (rule t w a (Mode c) ≡ a (Mode c)) ⊎ ((as_tri (rule t w a (Mode c)) ≡ No) × (find (is_visible t a) y.members ≡ None))
    unfolding rule
    mode_kept w given =
        let node : c.0 < length t.choices = slice_get_within t.choices c.0 y placed in
        let p : Bool = not (is_no (choice_prompt_value t a y)) in
        let now : a (Mode c) ≡ Level (mode_in p y.is_optional (chosen_in u c)) =
        solves (Mode c) node ∙ ap (λ (o : Option ChoiceValue). option_map_or (λ x. Level (mode t a x (chosen_in u c))) o (Level No)) placed
        in
        let moved_to : rule t w a (Mode c) ≡ Level (mode_in p y.is_optional (chosen_in w c)) =
        ap (λ (o : Option ChoiceValue). option_map_or (λ x. Level (mode t a x (chosen_in w c))) o (Level No)) placed
        in
        let selects : as_member (a (Sel c)) ≡ selection t a c y (chosen_in u c) =
        ap as_member (solves (Sel c) node ∙ ap (λ (o : Option ChoiceValue). option_map_or (λ x. Member (selection t a c x (chosen_in u c))) o (Level No)) placed)
        in
        ⊎_elim
        (λ plain. inl (moved_to
        ∙ ap (λ o. Level (mode_in p o (chosen_in w c))) plain
        ∙ sym (ap (λ o. Level (mode_in p o (chosen_in u c))) plain)
        ∙ sym now))
        (λ same.
        let to : rule t w a (Mode c) ≡ Level (mode_in p y.is_optional (selection t a c y (chosen_in u c))) =
        moved_to ∙ ap (λ m. Level (mode_in p y.is_optional m)) (same ∙ selects)
        in
        ⊎_elim
        (λ kept. inl (to ∙ ap Level kept ∙ sym now))
        (λ off. inr (
          ap as_tri to ∙ off.0,
          last_none (slice_get (filter_map (default_member t a) y.defaults) 0) (find (is_visible t a) y.members)
              (last_none (if is_no (as_tri (a (Mode c))) then None else find (λ s. is_symbol (chosen_in u c) s && is_visible t a s) y.members)
              (option_or (slice_get (filter_map (default_member t a) y.defaults) 0) (find (is_visible t a) y.members)) off.1),
        ))
        (mode_moves p y.is_optional (chosen_in u c) (selection t a c y (chosen_in u c)) (λ off. selects_nothing (chosen_in u c) (ap as_tri now ∙ off))))
        given

  -- ---- the assignment with the modes under other user values
  module _ (w : UserValues) (given : (c : ChoiceId) (y : ChoiceValue) → slice_get t.choices c.0 ≡ Some y → (y.is_optional ≡ false) ⊎ (chosen_in w c ≡ as_member (a (Sel c)))) where
    moved_same : (n : Node) → is_mode n ≡ false → a n ≡ moved t w a n
    moved_same (Vis s) h = refl
    moved_same (Val s) h = refl
    moved_same (Mode c) h = absurd (true≢false h)
    moved_same (Sel c) h = refl

    -- all but the mode of the choice around
    visibility_but : (x : SymbolValue) (m : Tri) → in_type (has_modules t a x) (least (greatest_of (map (prompt_value t a) (definitions_of t x))) m)
        ≡ in_type (has_modules t (moved t w a) x) (least (greatest_of (map (prompt_value t (moved t w a)) (definitions_of t x))) m)
    visibility_but x m =
        ap (λ b. in_type b (least (greatest_of (map (prompt_value t a) (definitions_of t x))) m))
        (has_modules_agrees a (moved t w a) t x (agree_where IsNoMode a (moved t w a) moved_same (type_nodes t x) (type_holds IsNoMode value_is_none t x)))
        ∙ ap (λ vs. in_type (has_modules t (moved t w a) x) (least (greatest_of vs) m))
        (map_agrees a (moved t w a) (prompt_value t a) (prompt_value t (moved t w a)) (prompt_nodes t) (prompt_agrees a (moved t w a) t) (definitions_of t x)
        (agree_where IsNoMode a (moved t w a) moved_same (flat_map (prompt_nodes t) (definitions_of t x)) (prompts_holds IsNoMode value_is_none t x)))

    visibility_in : (s : SymId) (x : SymbolValue) → slice_get t.symbols s.0 ≡ Some x → (o : Option ChoiceId) → x.choice ≡ o → (q : Option ChoiceValue) → option_and_then (λ (c : ChoiceId). slice_get t.choices c.0) o ≡ q
        → visibility t a x ≡ visibility t (moved t w a) x
    visibility_in s x found None e q f =
        visibility_but x (mode_around t a x.choice)
        ∙ ap (λ m. in_type (has_modules t (moved t w a) x) (least (greatest_of (map (prompt_value t (moved t w a)) (definitions_of t x))) m))
        (ap (mode_around t a) e ∙ sym (ap (mode_around t (moved t w a)) e))
    visibility_in s x found (Some c) e None f =
        visibility_but x (mode_around t a x.choice)
        ∙ ap (λ m. in_type (has_modules t (moved t w a) x) (least (greatest_of (map (prompt_value t (moved t w a)) (definitions_of t x))) m))
        (ap (mode_around t a) e ∙ ap (λ (p : Option ChoiceValue). option_map_or (λ z. as_tri (a (Mode c))) p Yes) f
        ∙ sym (ap (mode_around t (moved t w a)) e ∙ ap (λ (p : Option ChoiceValue). option_map_or (λ z. as_tri (moved t w a (Mode c))) p Yes) f))
    visibility_in s x found (Some c) e (Some y) f =
        ⊎_elim
        (λ kept.
        visibility_but x (mode_around t a x.choice)
        ∙ ap (λ m. in_type (has_modules t (moved t w a) x) (least (greatest_of (map (prompt_value t (moved t w a)) (definitions_of t x))) m))
        (around c y f a x.choice e ∙ sym (ap as_tri kept) ∙ sym (around c y f (moved t w a) x.choice e)))
        (λ off.
        let mine : choice_of t s ≡ Some c = ap (λ (p : Option SymbolValue). option_and_then (λ z. z.choice) p) found ∙ e in
        let unseen : is_visible t a s ≡ false = listed_fails (is_visible t a) s y.members (grouped.listed s c y mine f) (failed (is_visible t a) y.members off.1) in
        let now : visibility t a x ≡ No = sym (level_of s x found) ∙ is_no_of (as_tri (a (Vis s))) (sym (visible_is s (Some x) found) ∙ unseen) in
        now ∙ sym (member_fades c y f (moved t w a) x e off.0))
        (mode_kept c y f w (given c y f))

    vis_moved : (s : SymId) → IsNodeOf t (Vis s) → a (Vis s) ≡ rule t w (moved t w a) (Vis s)
    unfolding rule
    vis_moved s node = solves (Vis s) node ∙ go (slice_get t.symbols s.0) refl
      where
        go : (o : Option SymbolValue) → slice_get t.symbols s.0 ≡ o → option_map_or (λ x. Level (visibility t a x)) o (Level No) ≡ option_map_or (λ x. Level (visibility t (moved t w a) x)) o (Level No)
        go None f = refl
        go (Some x) f = ap Level (visibility_in s x f x.choice refl (option_and_then (λ (c : ChoiceId). slice_get t.choices c.0) x.choice) refl)

    selection_in : (c : ChoiceId) (y : ChoiceValue) → slice_get t.choices c.0 ≡ Some y → (chosen : Option SymId) → selection t a c y chosen ≡ selection t (moved t w a) c y chosen
    selection_in c y placed chosen =
        let find_chosen = find (λ s. is_symbol chosen s && is_visible t a s) y.members in
        let of : Option SymId → List SymId → Option SymId = λ s ds. option_or s (option_or (slice_get ds 0) (find (is_visible t a) y.members)) in
        ap (of (if is_no (as_tri (a (Mode c))) then None else find_chosen)) (default_members_past_modes t a (moved t w a) moved_same y.defaults)
        ∙ ap (λ s. of s (filter_map (default_member t (moved t w a)) y.defaults))
        (⊎_elim
        (λ kept. ap (λ v. if is_no (as_tri v) then None else find_chosen) (sym kept))
        (λ off.
        let none : find_chosen ≡ None = both_fail (is_symbol chosen) (is_visible t a) y.members off.1 in
        none_if (is_no (as_tri (a (Mode c)))) find_chosen none ∙ sym (none_if (is_no (as_tri (rule t w a (Mode c)))) find_chosen none))
        (mode_kept c y placed w (given c y placed)))

    sel_moved : (c : ChoiceId) → rule t w a (Sel c) ≡ rule t w (moved t w a) (Sel c)
    unfolding rule
    sel_moved c = go (slice_get t.choices c.0) refl
      where
        go : (o : Option ChoiceValue) → slice_get t.choices c.0 ≡ o → option_map_or (λ y. Member (selection t a c y (chosen_in w c))) o (Level No) ≡ option_map_or (λ y. Member (selection t (moved t w a) c y (chosen_in w c))) o (Level No)
        go None f = refl
        go (Some y) f = ap Member (selection_in c y f (chosen_in w c))

    -- values and selections that the rule gives again make it the solution under the other user values
    pub moved_solves : ((s : SymId) → IsNodeOf t (Val s) → rule t w a (Val s) ≡ a (Val s)) → ((c : ChoiceId) → IsNodeOf t (Sel c) → rule t w a (Sel c) ≡ a (Sel c))
        → IsSolution t w (moved t w a)
    moved_solves values selections (Vis s) node = vis_moved s node
    moved_solves values selections (Val s) node = sym (values s node) ∙ value_past_modes t w a (moved t w a) s moved_same
    moved_solves values selections (Mode c) node = mode_past_modes t w a (moved t w a) c moved_same
    moved_solves values selections (Sel c) node = sym (selections c node) ∙ sel_moved c
