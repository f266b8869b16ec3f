-- Edits that change nothing, and edits one after the other that change each place of the user values at most once.
use Rattle.std.proofs.Common.{◌≡◌, ◌⊎◌, inl, inr, Bool, true, false, true≢false, not, ◌&&◌, Option, is_some, refl, sym, ap, ◌∙◌, ⊎_elim}
use Rattle.kc_statement.specs.declared.id.SymId.{SymId}
use Rattle.kc_outline.specs.declared.id.ChoiceId.{ChoiceId}
use Rattle.kc_outline.specs.TreeValue.{TreeValue, choice_of}
use Rattle.kc_tree.specs.declared.node.Node.{Node}
use Rattle.kc_tree.specs.declared.node.Node.TheVariants.{Vis, Val, Mode, Sel}
use Rattle.kc_tree.specs.declared.user_value.UserVal.{UserVal}
use Rattle.kc_value.specs.ChangedValue.{same_mark, same_member}
use Rattle.kc_value.specs.Dirty.{same_given, is_changed, ChangesEachOnce, IsDirty, Edits}
use Rattle.kc_value.specs.Kept.{KeptValue}
use Rattle.kc_value.specs.UserValues.{UserValues, user_value, chosen_in}
use Rattle.kc_value.specs.Without.{is_optional_choice}
use Rattle.kc_value.proofs.SameLaws.{given_refl, mark_refl, member_refl}

-- ---- user values are the same as themselves
none_changed : (a b : Bool) → b ≡ true → (a && not b) ≡ false
none_changed true b e = ap not e
none_changed false b e = refl

unchanged : (t : TreeValue) (u : UserValues) (n : Node) → is_changed t u u n ≡ false
unchanged t u (Vis s) = refl
unchanged t u (Val s) = none_changed (not (is_some (choice_of t s))) (same_given (user_value u s) (user_value u s)) (given_refl (user_value u s))
unchanged t u (Mode c) = none_changed (is_optional_choice t c) (same_mark (is_some (chosen_in u c)) (is_some (chosen_in u c))) (mark_refl (is_some (chosen_in u c)))
unchanged t u (Sel c) = ap not (member_refl (chosen_in u c))

pub edits_nothing : (t : TreeValue) (u : UserValues) (k : KeptValue) → Edits t u u k k
edits_nothing t u k = record {
  dropped = λ n inside h. absurd (true≢false (sym h.2 ∙ unchanged t u h.0));
  each = λ n inside. inl refl;
  evals = refl;
}

module _ (t : TreeValue) (u v w : UserValues) where
  abbrev ChangesOnce : Node → Type 0
  ChangesOnce k = ((is_changed t u v k ≡ false) × (is_changed t u w k ≡ is_changed t v w k)) ⊎ ((is_changed t v w k ≡ false) × (is_changed t u w k ≡ is_changed t u v k))

  value_once : (s : SymId) → (user_value v s ≡ user_value u s) ⊎ (user_value w s ≡ user_value v s) → ChangesOnce (Val s)
  value_once s o =
      let test : Option UserVal → Option UserVal → Bool = λ x y. not (is_some (choice_of t s)) && not (same_given x y) in
      ⊎_elim
      (λ same. inl (ap (test (user_value u s)) same ∙ unchanged t u (Val s), ap (λ x. test x (user_value w s)) (sym same)))
      (λ same. inr (ap (test (user_value v s)) same ∙ unchanged t v (Val s), ap (test (user_value u s)) same))
      o

  mode_once : (c : ChoiceId) → (chosen_in v c ≡ chosen_in u c) ⊎ (chosen_in w c ≡ chosen_in v c) → ChangesOnce (Mode c)
  mode_once c o =
      let test : Option SymId → Option SymId → Bool = λ x y. is_optional_choice t c && not (same_mark (is_some x) (is_some y)) in
      ⊎_elim
      (λ same. inl (ap (test (chosen_in u c)) same ∙ unchanged t u (Mode c), ap (λ x. test x (chosen_in w c)) (sym same)))
      (λ same. inr (ap (test (chosen_in v c)) same ∙ unchanged t v (Mode c), ap (test (chosen_in u c)) same))
      o

  selection_once : (c : ChoiceId) → (chosen_in v c ≡ chosen_in u c) ⊎ (chosen_in w c ≡ chosen_in v c) → ChangesOnce (Sel c)
  selection_once c o =
      let test : Option SymId → Option SymId → Bool = λ x y. not (same_member x y) in
      ⊎_elim
      (λ same. inl (ap (test (chosen_in u c)) same ∙ unchanged t u (Sel c), ap (λ x. test x (chosen_in w c)) (sym same)))
      (λ same. inr (ap (test (chosen_in v c)) same ∙ unchanged t v (Sel c), ap (test (chosen_in u c)) same))
      o

  module _ (once : (k : Node) → ChangesOnce k) where
    dirty_first : (n : Node) → IsDirty t u v n → IsDirty t u w n
    dirty_first n dirty =
        (dirty.0, dirty.1, ⊎_elim (λ o. absurd (true≢false (sym dirty.2 ∙ o.0))) (λ o. o.1 ∙ dirty.2) (once dirty.0), dirty.3)

    dirty_second : (n : Node) → IsDirty t v w n → IsDirty t u w n
    dirty_second n dirty =
        (dirty.0, dirty.1, ⊎_elim (λ o. o.1 ∙ dirty.2) (λ o. absurd (true≢false (sym dirty.2 ∙ o.0))) (once dirty.0), dirty.3)

    edits_both : (a b c : KeptValue) → Edits t u v a b → Edits t v w b c → Edits t u w a c
    edits_both a b c first second = record {
      dropped = λ n inside dirty.
          ⊎_elim
          (λ o. second.dropped n inside (dirty.0, dirty.1, sym o.1 ∙ dirty.2, dirty.3))
          (λ o. ⊎_elim
          (λ same. same ∙ first.dropped n inside (dirty.0, dirty.1, sym o.1 ∙ dirty.2, dirty.3))
          (λ none. none.0)
          (second.each n inside))
          (once dirty.0);
      each = λ n inside.
          ⊎_elim
          (λ same. ⊎_elim (λ was. inl (same ∙ was)) (λ none. inr (same ∙ none.0, dirty_first n none.1)) (first.each n inside))
          (λ none. inr (none.0, dirty_second n none.1))
          (second.each n inside);
      evals = second.evals ∙ first.evals;
    }

  -- each place becomes another at most once: it has what it had before, or what it has afterwards
  pub edits_once : ChangesEachOnce u v w → (a b c : KeptValue) → Edits t u v a b → Edits t v w b c → Edits t u w a c
  edits_once h = edits_both once
    where
      once : (k : Node) → ChangesOnce k
      once (Vis s) = inl (refl, refl)
      once (Val s) = value_once s (h.values s)
      once (Mode c) = mode_once c (h.chosen c)
      once (Sel c) = selection_once c (h.chosen c)
