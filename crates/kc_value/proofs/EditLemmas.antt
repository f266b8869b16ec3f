-- Dropping the nodes that change, with all that is computed from them, makes an edit.
use Rattle.std.proofs.Common.{◌≡◌, ◌⊎◌, inl, inr, ℕ, ◌+◌, ◌<◌, Bool, true, false, true≢false, not, ◌&&◌, List, [], Option, None, is_some, length, get_or-set_same, get_or-set_other, sym, ap, ◌∙◌, subst, ⊎_elim, arith}
use Rattle.std.specs.List.{Contains}
use Rattle.std.proofs.lemmas.Bool.{cases_eq}
use Rattle.kc_statement.specs.declared.id.SymId.{SymId}
use Rattle.kc_outline.specs.declared.id.ChoiceId.{ChoiceId}
use Rattle.kc_outline.specs.TreeValue.{TreeValue, choice_of}
use Rattle.kc_tree.specs.declared.node.Node.{Node}
use Rattle.kc_tree.specs.declared.node.Node.TheVariants.{Vis, Val, Mode, Sel}
use Rattle.kc_tree.specs.declared.user_value.UserVal.{UserVal}
use Rattle.kc_tree.specs.Cells.{cell_count}
use Rattle.kc_tree.specs.Nodes.{IsNodeOf, number_of}
use Rattle.kc_tree.proofs.NodeNumbers.{number_below}
use Rattle.kc_value.specs.declared.value.Value.{Value}
use Rattle.kc_value.specs.ChangedValue.{same_mark, same_member}
use Rattle.kc_value.specs.Dirty.{same_given, is_changed, Edits}
use Rattle.kc_value.specs.DropWalk.{DropsAll, IsChangedChoice, IsChangedNumber, IsChangedValue, IsDropped, IsOneIf}
use Rattle.kc_value.specs.Kept.{KeptValue}
use Rattle.kc_value.specs.UserValues.{UserValues, IsUserFor, user_value, chosen_in, with_value, with_chosen}
use Rattle.kc_value.specs.Without.{is_optional_choice}
use Rattle.kc_value.proofs.DropSteps.{drops_same, drops_then}
use Rattle.kc_value.proofs.SameLaws.{mark_refl, given_refl, member_refl}

-- ---- once all is dropped
pub dropped_edits : (t : TreeValue) (u w : UserValues) (old new : KeptValue) → IsDropped t u w old.values new.values → new.evals ≡ old.evals → Edits t u w old new
dropped_edits t u w old new dropped evals = record { dropped = dropped.dropped; each = dropped.each; evals = evals }

-- ---- what changes with one user value
never : (b : Bool) (x : Bool) → x ≡ true → (b && not x) ≡ true → ⊥
never true x e h = true≢false (sym h ∙ ap not e)
never false x e h = true≢false (sym h)

abbrev numbered_value : ℕ → Node
numbered_value k = Val (record { 0 = k })

abbrev numbered_mode : ℕ → Node
numbered_mode k = Mode (record { 0 = k })

abbrev numbered_selection : ℕ → Node
numbered_selection k = Sel (record { 0 = k })

module _ (t : TreeValue) (u : UserValues) (s : SymId) (v : Option UserVal) where
  only_value : (c : Node) → is_changed t u (with_value u s v) c ≡ true → Val s ≡ c
  only_value (Vis r) h = absurd (true≢false (sym h))
  only_value (Val r) h =
      ⊎_elim
      (λ (same : r.0 ≡ s.0). sym (ap numbered_value same))
      (λ other.
      let stays : same_given (user_value u r) (user_value (with_value u s v) r) ≡ true = ap (same_given (user_value u r)) (get_or-set_other u.values s.0 r.0 v None other) ∙ given_refl (user_value u r) in
      absurd (never (not (is_some (choice_of t r))) (same_given (user_value u r) (user_value (with_value u s v) r)) stays h))
      (cases_eq r.0 s.0)
  only_value (Mode c) h = absurd (never (is_optional_choice t c) (same_mark (is_some (chosen_in u c)) (is_some (chosen_in u c))) (mark_refl (is_some (chosen_in u c))) h)
  only_value (Sel c) h = absurd (never true (same_member (chosen_in u c) (chosen_in u c)) (member_refl (chosen_in u c)) h)

  -- so the value of that symbol is what is dropped
  pub value_drops : (old new : List (Option Value)) (before list : List ℕ) (b : Bool) (number : ℕ) → IsNodeOf t (Val s) → IsUserFor t u
      → b ≡ (not (is_some (choice_of t s)) && not (same_given (user_value u s) v)) → number ≡ number_of t (Val s)
      → DropsAll (IsOneIf b number) old new before list → DropsAll (IsChangedNumber t u (with_value u s v)) old new before list
  value_drops old new before list b number inside user is at drops =
      let w = with_value u s v in
      let room : s.0 < length u.values = omega (arith, inside, user.values) in
      let given : v ≡ user_value w s = sym (get_or-set_same u.values s.0 v None room) in
      let own : b ≡ is_changed t u w (Val s) = is ∙ ap (λ x. not (is_some (choice_of t s)) && not (same_given (user_value u s) x)) given in
      drops_same (IsOneIf b number) (IsChangedNumber t u w) old new before list
      (λ k h. (Val s, inside, (sym own ∙ h.0, h.1 ∙ at)))
      (λ k h. let same : Val s ≡ h.0 = only_value h.0 h.2.0 in (own ∙ ap (is_changed t u w) same ∙ h.2.0, h.2.1 ∙ ap (number_of t) (sym same) ∙ sym at))
      drops

module _ (t : TreeValue) (u : UserValues) (c : ChoiceId) (m : Option SymId) where
  chosen_stays : (d : ChoiceId) → (d.0 ≡ c.0 → ⊥) → chosen_in (with_chosen u c m) d ≡ chosen_in u d
  chosen_stays d other = get_or-set_other u.chosen c.0 d.0 m None other

  only_choice : (n : Node) → is_changed t u (with_chosen u c m) n ≡ true → (Mode c ≡ n) ⊎ (Sel c ≡ n)
  only_choice (Vis r) h = absurd (true≢false (sym h))
  only_choice (Val r) h = absurd (never (not (is_some (choice_of t r))) (same_given (user_value u r) (user_value u r)) (given_refl (user_value u r)) h)
  only_choice (Mode d) h =
      ⊎_elim
      (λ (same : d.0 ≡ c.0). inl (sym (ap numbered_mode same)))
      (λ other.
      let mine = is_some (chosen_in u d) in
      let stays : same_mark mine (is_some (chosen_in (with_chosen u c m) d)) ≡ true = ap (λ x. same_mark mine (is_some x)) (chosen_stays d other) ∙ mark_refl mine in
      absurd (never (is_optional_choice t d) (same_mark mine (is_some (chosen_in (with_chosen u c m) d))) stays h))
      (cases_eq d.0 c.0)
  only_choice (Sel d) h =
      ⊎_elim
      (λ (same : d.0 ≡ c.0). inr (sym (ap numbered_selection same)))
      (λ other.
      let stays : same_member (chosen_in u d) (chosen_in (with_chosen u c m) d) ≡ true = ap (same_member (chosen_in u d)) (chosen_stays d other) ∙ member_refl (chosen_in u d) in
      absurd (never true (same_member (chosen_in u d) (chosen_in (with_chosen u c m) d)) stays h))
      (cases_eq d.0 c.0)

  -- so its mode and its selection are what is dropped
  pub chosen_drops : (old mid new : List (Option Value)) (before first second : List ℕ) (mode_changes selection_changes : Bool) (mode selection : ℕ) → IsNodeOf t (Sel c) → IsUserFor t u
      → mode_changes ≡ (is_optional_choice t c && not (same_mark (is_some (chosen_in u c)) (is_some m)))
      → selection_changes ≡ not (same_member (chosen_in u c) m)
      → mode ≡ number_of t (Mode c) → selection ≡ number_of t (Sel c)
      → DropsAll (IsOneIf mode_changes mode) old mid before first → DropsAll (IsOneIf selection_changes selection) mid new first second
      → DropsAll (IsChangedNumber t u (with_chosen u c m)) old new before second
  chosen_drops old mid new before first second mode_changes selection_changes mode selection inside user of_mode of_selection at_mode at_selection one other =
      let w = with_chosen u c m in
      let room : c.0 < length u.chosen = omega (arith, inside, user.chosen) in
      let given : m ≡ chosen_in w c = sym (get_or-set_same u.chosen c.0 m None room) in
      let mode_is : mode_changes ≡ is_changed t u w (Mode c) = of_mode ∙ ap (λ x. is_optional_choice t c && not (same_mark (is_some (chosen_in u c)) (is_some x))) given in
      let selection_is : selection_changes ≡ is_changed t u w (Sel c) = of_selection ∙ ap (λ x. not (same_member (chosen_in u c) x)) given in
      drops_then (IsOneIf mode_changes mode) (IsOneIf selection_changes selection) (IsChangedNumber t u w) old mid new before first second
      (λ k h. (Mode c, inside, (sym mode_is ∙ h.0, h.1 ∙ at_mode)))
      (λ k h. (Sel c, inside, (sym selection_is ∙ h.0, h.1 ∙ at_selection)))
      (λ k h.
      ⊎_elim
      (λ same. inl (mode_is ∙ ap (is_changed t u w) same ∙ h.2.0, h.2.1 ∙ ap (number_of t) (sym same) ∙ sym at_mode))
      (λ same. inr (selection_is ∙ ap (is_changed t u w) same ∙ h.2.0, h.2.1 ∙ ap (number_of t) (sym same) ∙ sym at_selection))
      (only_choice h.0 h.2.0))
      one other

-- ---- what changes with all of them
module _ (t : TreeValue) (u w : UserValues) where
  -- one symbol after another
  pub value_next : (i : ℕ) (b : Bool) (number : ℕ) (old mid new : List (Option Value)) (first second third : List ℕ) → b ≡ is_changed t u w (numbered_value i) → number ≡ number_of t (numbered_value i)
      → DropsAll (IsChangedValue t u w i) old mid first second → DropsAll (IsOneIf b number) mid new second third → DropsAll (IsChangedValue t u w (i + 1)) old new first third
  value_next i b number old mid new first second third is at =
      drops_then (IsChangedValue t u w i) (IsOneIf b number) (IsChangedValue t u w (i + 1)) old mid new first second third
      (λ k h. (h.0, omega (arith, h.1), h.2))
      (λ k h. (record { 0 = i }, omega arith, (sym is ∙ h.0, h.1 ∙ at)))
      (λ k h.
      ⊎_elim
      (λ same. inr (is ∙ ap (λ j. is_changed t u w (numbered_value j)) (sym same) ∙ h.2.0, h.2.1 ∙ ap (λ j. number_of t (numbered_value j)) same ∙ sym at))
      (λ other. inl (h.0, omega (arith, h.1, other), h.2))
      (cases_eq h.0.0 i))

  -- and one choice after another: its mode, and then its selection
  abbrev ModeToo : ℕ → Bool → ℕ → ℕ → Type 0
  ModeToo i b number k = IsChangedChoice t u w i k ⊎ IsOneIf b number k

  pub choice_next : (i : ℕ) (b d : Bool) (mode selection : ℕ) (old mid late new : List (Option Value)) (first second third fourth : List ℕ)
      → b ≡ is_changed t u w (numbered_mode i) → d ≡ is_changed t u w (numbered_selection i) → mode ≡ number_of t (numbered_mode i) → selection ≡ number_of t (numbered_selection i)
      → DropsAll (IsChangedChoice t u w i) old mid first second → DropsAll (IsOneIf b mode) mid late second third → DropsAll (IsOneIf d selection) late new third fourth
      → DropsAll (IsChangedChoice t u w (i + 1)) old new first fourth
  choice_next i b d mode selection old mid late new first second third fourth of_mode of_selection at_mode at_selection before one other =
      drops_then (ModeToo i b mode) (IsOneIf d selection) (IsChangedChoice t u w (i + 1)) old late new first third fourth
      (λ k h. ⊎_elim (λ early. (early.0, omega (arith, early.1), early.2)) (λ own. (record { 0 = i }, omega arith, inl (sym of_mode ∙ own.0, own.1 ∙ at_mode))) h)
      (λ k h. (record { 0 = i }, omega arith, inr (sym of_selection ∙ h.0, h.1 ∙ at_selection)))
      (λ k h.
      ⊎_elim
      (λ same.
      ⊎_elim
      (λ m. inl (inr (of_mode ∙ ap (λ j. is_changed t u w (numbered_mode j)) (sym same) ∙ m.0, m.1 ∙ ap (λ j. number_of t (numbered_mode j)) same ∙ sym at_mode)))
      (λ s. inr (of_selection ∙ ap (λ j. is_changed t u w (numbered_selection j)) (sym same) ∙ s.0, s.1 ∙ ap (λ j. number_of t (numbered_selection j)) same ∙ sym at_selection))
      h.2)
      (λ differs. inl (inl (h.0, omega (arith, h.1, differs), h.2)))
      (cases_eq h.0.0 i))
      (drops_then (IsChangedChoice t u w i) (IsOneIf b mode) (ModeToo i b mode) old mid late first second third (λ k h. inl h) (λ k h. inr h) (λ k h. h) before one)
      other

  -- so all nodes that change are dropped
  pub all_drops : (old mid new : List (Option Value)) (first second third : List ℕ) → DropsAll (IsChangedValue t u w (length t.symbols)) old mid first second
      → DropsAll (IsChangedChoice t u w (length t.choices)) mid new second third → DropsAll (IsChangedNumber t u w) old new first third
  all_drops old mid new first second third =
      drops_then (IsChangedValue t u w (length t.symbols)) (IsChangedChoice t u w (length t.choices)) (IsChangedNumber t u w) old mid new first second third
      (λ k h. (Val h.0, h.1, h.2))
      (λ k h. ⊎_elim (λ m. (Mode h.0, h.1, m)) (λ s. (Sel h.0, h.1, s)) h.2)
      (λ k h. by_node h.0 k h.1 h.2.0 h.2.1)
    where
      by_node : (n : Node) (k : ℕ) → IsNodeOf t n → is_changed t u w n ≡ true → k ≡ number_of t n → IsChangedValue t u w (length t.symbols) k ⊎ IsChangedChoice t u w (length t.choices) k
      by_node (Vis s) k inside changes at = absurd (true≢false (sym changes))
      by_node (Val s) k inside changes at = inl (s, inside, (changes, at))
      by_node (Mode c) k inside changes at = inr (c, inside, inl (changes, at))
      by_node (Sel c) k inside changes at = inr (c, inside, inr (changes, at))

-- ---- an edit begins with a list that was cleared, over values that are those of before
pub drops_begun : (dropped : ℕ → Type 0) (held old new : List (Option Value)) (cleared list : List ℕ) → held ≡ old → cleared ≡ [] → DropsAll dropped held new cleared list → DropsAll dropped old new [] list
drops_begun dropped held old new cleared list values none drops =
    subst (λ vs. DropsAll dropped vs new [] list) values (subst (λ xs. DropsAll dropped held new xs list) none drops)

-- what it lists are numbers of cells
pub listed_inside : (t : TreeValue) (u w : UserValues) (old new : List (Option Value)) (list : List ℕ) → DropsAll (IsChangedNumber t u w) old new [] list → (k : ℕ) → Contains list k → k < cell_count t
listed_inside t u w old new list drops k c =
    ⊎_elim (λ none. absurd (omega (arith, none.1))) (λ start. omega (arith, number_below t start.0 start.1, start.2.1)) (drops.listed k c)
