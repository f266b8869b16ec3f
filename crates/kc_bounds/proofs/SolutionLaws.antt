-- What the rule of each node says of the solution.
use Rattle.std.proofs.Common.{◌≡◌, Bool, true, false, Some, None, sym, ap, ◌∙◌, slice_get}
use Rattle.std.specs.Prelude.{if◌then◌else◌}
use Rattle.std.specs.Option.{option_map_or}
use Rattle.std.proofs.lemmas.Option.{slice_get_within}
use Rattle.kc_statement.specs.declared.id.SymId.{SymId}
use Rattle.kc_statement.specs.declared.tri.Tri.TheVariants.{No}
use Rattle.kc_outline.specs.declared.id.ChoiceId.{ChoiceId}
use Rattle.kc_outline.specs.TreeValue.{TreeValue, SymbolValue, ChoiceValue, kind_of}
use Rattle.kc_tree.specs.declared.node.Node.TheVariants.{Vis, Val, Mode, Sel}
use Rattle.kc_value.specs.declared.value.Value.TheVariants.{Tri as Level, Member}
use Rattle.kc_value.specs.Assignment.{as_member, as_tri}
use Rattle.kc_value.specs.ChoiceRule.{is_symbol, member_rule, mode, selected_in, selection}
use Rattle.kc_value.specs.ExprValue.{yes_if}
use Rattle.kc_value.specs.Rule.{free_rule, rule, shown_value, symbol_rule, tri_rule, visibility}
use Rattle.kc_value.specs.TextRule.{text_rule}
use Rattle.kc_statement.specs.SymbolTypes.{is_tri_type}
use Rattle.kc_value.specs.Solution.{IsOnlySolution, solution}
use Rattle.kc_value.specs.UserValues.{UserValues, chosen_in, user_value}

module _ (t : TreeValue) (w : UserValues) (only : IsOnlySolution t w (solution t w)) where
  pub visibility_is : (s : SymId) (x : SymbolValue) → slice_get t.symbols s.0 ≡ Some x → as_tri (solution t w (Vis s)) ≡ visibility t (solution t w) x
  unfolding rule
  visibility_is s x at =
      ap as_tri (only.solves (Vis s) (slice_get_within t.symbols s.0 x at))
      ∙ ap (λ o. as_tri (option_map_or (λ x. Level (visibility t (solution t w) x)) o (Level No))) at

  pub value_is : (s : SymId) (x : SymbolValue) → slice_get t.symbols s.0 ≡ Some x
      → solution t w (Val s) ≡ symbol_rule t (solution t w) s x (as_tri (solution t w (Vis s))) (user_value w s)
  unfolding rule
  value_is s x at =
      only.solves (Val s) (slice_get_within t.symbols s.0 x at)
      ∙ ap (λ o. option_map_or (λ x. symbol_rule t (solution t w) s x (as_tri (solution t w (Vis s))) (user_value w s)) o (Level No)) at

  pub mode_is : (c : ChoiceId) (x : ChoiceValue) → slice_get t.choices c.0 ≡ Some x → as_tri (solution t w (Mode c)) ≡ mode t (solution t w) x (chosen_in w c)
  unfolding rule
  mode_is c x at =
      ap as_tri (only.solves (Mode c) (slice_get_within t.choices c.0 x at))
      ∙ ap (λ o. as_tri (option_map_or (λ x. Level (mode t (solution t w) x (chosen_in w c))) o (Level No))) at

  pub selection_is : (c : ChoiceId) (x : ChoiceValue) → slice_get t.choices c.0 ≡ Some x
      → as_member (solution t w (Sel c)) ≡ selection t (solution t w) c x (chosen_in w c)
  unfolding rule
  selection_is c x at =
      ap as_member (only.solves (Sel c) (slice_get_within t.choices c.0 x at))
      ∙ ap (λ o. as_member (option_map_or (λ x. Member (selection t (solution t w) c x (chosen_in w c))) o (Level No))) at

  -- ---- the values of symbols, by what they are
  pub member_is : (s : SymId) (x : SymbolValue) (c : ChoiceId) → slice_get t.symbols s.0 ≡ Some x → x.choice ≡ Some c
      → yes_if (is_symbol (selected_in t (solution t w) c) s) ≡ as_tri (solution t w (Val s))
  member_is s x c at choice =
      let a = solution t w in
      let vis = as_tri (solution t w (Vis s)) in
      sym (ap as_tri (value_is s x at) ∙ ap (λ o. as_tri (option_map_or (λ c. member_rule t a c s vis) o (free_rule t a x vis (user_value w s)))) choice)

  free_is : (s : SymId) (x : SymbolValue) (b : Bool) → slice_get t.symbols s.0 ≡ Some x → x.choice ≡ None → is_tri_type (kind_of x) ≡ b
      → as_tri (solution t w (Val s)) ≡ as_tri (if b then tri_rule t (solution t w) x (as_tri (solution t w (Vis s))) (user_value w s) else text_rule t (solution t w) x (as_tri (solution t w (Vis s))) (user_value w s))
  free_is s x b at none type =
      let a = solution t w in
      let vis = as_tri (solution t w (Vis s)) in
      ap as_tri (value_is s x at)
      ∙ ap (λ o. as_tri (option_map_or (λ c. member_rule t a c s vis) o (free_rule t a x vis (user_value w s)))) none
      ∙ ap (λ b. as_tri (if b then tri_rule t a x vis (user_value w s) else text_rule t a x vis (user_value w s))) type

  pub shown_is : (s : SymId) (x : SymbolValue) → slice_get t.symbols s.0 ≡ Some x → x.choice ≡ None → is_tri_type (kind_of x) ≡ true
      → shown_value t (solution t w) x (as_tri (solution t w (Vis s))) (user_value w s) ≡ as_tri (solution t w (Val s))
  shown_is s x at none type = sym (free_is s x true at none type)

  pub text_is : (s : SymId) (x : SymbolValue) → slice_get t.symbols s.0 ≡ Some x → x.choice ≡ None → is_tri_type (kind_of x) ≡ false
      → No ≡ as_tri (solution t w (Val s))
  text_is s x at none type = sym (free_is s x false at none type)
