-- Solutions with the same values have the same visibilities.
use Rattle.std.proofs.Common.{◌≡◌, Bool, true, false, true≢false, not, ◌&&◌, List, map, Option, Some, None, slice_get, refl, sym, ap, ◌∙◌}
use Rattle.std.specs.List.{flat_map}
use Rattle.std.specs.Option.{option_map_or}
use Rattle.std.proofs.lemmas.Option.{slice_get_within}
use Rattle.kc_statement.specs.declared.id.SymId.{SymId}
use Rattle.kc_outline.specs.declared.id.ChoiceId.{ChoiceId}
use Rattle.kc_tree.specs.declared.node.Node.{Node}
use Rattle.kc_tree.specs.declared.node.Node.TheVariants.{Vis, Val, Mode, Sel}
use Rattle.kc_statement.specs.declared.tri.Tri.{Tri}
use Rattle.kc_statement.specs.declared.tri.Tri.TheVariants.{No, Module, Yes}
use Rattle.kc_tree.specs.Nodes.{IsNodeOf}
use Rattle.kc_outline.specs.Grouped.{IsGrouped}
use Rattle.kc_outline.specs.TreeValue.{TreeValue, SymbolValue, definitions_of}
use Rattle.kc_statement.specs.Tristate.{least, greatest_of, is_no}
use Rattle.kc_tree.specs.Uses.{prompt_nodes, type_nodes}
use Rattle.kc_value.specs.declared.value.Value.TheVariants.{Tri as Level}
use Rattle.kc_value.specs.Assignment.{Assignment, as_tri, is_written}
use Rattle.kc_value.specs.UserValues.{UserValues, user_value}
use Rattle.kc_value.specs.ExprValue.{modules_value}
use Rattle.kc_value.specs.Conditions.{prompt_value, mode_around}
use Rattle.kc_value.specs.ChoiceRule.{member_rule}
use Rattle.kc_value.specs.Rule.{rule, in_type, in_bool, has_modules, visibility, free_rule, symbol_rule}
use Rattle.kc_value.specs.Solution.{IsSolution}
use Rattle.kc_value.proofs.Agreement.{has_modules_agrees, prompt_agrees, map_agrees}
use Rattle.kc_value.proofs.ReadNodes.{agree_where, type_holds, prompts_holds}
use Rattle.kc_outline.specs.TreeValue.{same_type}
use Rattle.kc_statement.specs.declared.symbol_type.SymbolType.TheVariants as kind

-- a value, and no other node
abbrev IsValue : Node → Type 0
IsValue (Vis s) = ⊥
IsValue (Val s) = Unit {0}
IsValue (Mode c) = ⊥
IsValue (Sel c) = ⊥

value_is : (s : SymId) → IsValue (Val s)
value_is s = tt

not_not : (x y : Bool) → not x ≡ not y → x ≡ y
not_not true true e = refl
not_not true false e = sym e
not_not false true e = sym e
not_not false false e = refl

-- of a type that knows no m, whether it is n tells the value
bool_told : (g h : Tri) → is_no (in_bool g) ≡ is_no (in_bool h) → in_bool g ≡ in_bool h
bool_told No No e = refl
bool_told No Module e = absurd (true≢false e)
bool_told No Yes e = absurd (true≢false e)
bool_told Module No e = absurd (true≢false (sym e))
bool_told Module Module e = refl
bool_told Module Yes e = refl
bool_told Yes No e = absurd (true≢false (sym e))
bool_told Yes Module e = refl
bool_told Yes Yes e = refl

module _ (t : TreeValue) (u w : UserValues) (a b : Assignment) (grouped : IsGrouped t) (here : IsSolution t u a) (there : IsSolution t w b) (same : (s : SymId) → a (Val s) ≡ b (Val s)) where
  same_values : (n : Node) → IsValue n → a n ≡ b n
  same_values (Vis s) h = absurd h
  same_values (Val s) h = same s
  same_values (Mode c) h = absurd h
  same_values (Sel c) h = absurd h

  level : (v : UserValues) (d : Assignment) (s : SymId) (x : SymbolValue) → IsSolution t v d → slice_get t.symbols s.0 ≡ Some x → as_tri (d (Vis s)) ≡ visibility t d x
  unfolding rule
  level v d s x ok found =
      ap as_tri (ok (Vis s) (slice_get_within t.symbols s.0 x found) ∙ ap (λ o. option_map_or (λ y. Level (visibility t d y)) o (Level No)) found)

  -- a member has its line where it is visible
  mark : (v : UserValues) (d : Assignment) (s : SymId) (x : SymbolValue) (c : ChoiceId) → IsSolution t v d → slice_get t.symbols s.0 ≡ Some x → x.choice ≡ Some c
      → is_written (d (Val s)) ≡ not (is_no (as_tri (d (Vis s))))
  unfolding rule
  mark v d s x c ok found of =
      ap is_written (ok (Val s) (slice_get_within t.symbols s.0 x found)
      ∙ ap (λ (o : Option SymbolValue). option_map_or (λ y. symbol_rule t d s y (as_tri (d (Vis s))) (user_value v s)) o (Level No)) found
      ∙ ap (λ (o : Option ChoiceId). option_map_or (λ k. member_rule t d k s (as_tri (d (Vis s)))) o (free_rule t d x (as_tri (d (Vis s))) (user_value v s))) of)

  alone_same : (x : SymbolValue) → x.choice ≡ None → visibility t a x ≡ visibility t b x
  alone_same x alone =
      let of : Bool → List Tri → Option ChoiceId → Assignment → Tri = λ m vs o d. in_type m (least (greatest_of vs) (mode_around t d o)) in
      ap (λ m. of m (map (prompt_value t a) (definitions_of t x)) x.choice a) (has_modules_agrees a b t x (agree_where IsValue a b same_values (type_nodes t x) (type_holds IsValue value_is t x)))
      ∙ ap (λ vs. of (has_modules t b x) vs x.choice a)
      (map_agrees a b (prompt_value t a) (prompt_value t b) (prompt_nodes t) (prompt_agrees a b t) (definitions_of t x)
      (agree_where IsValue a b same_values (flat_map (prompt_nodes t) (definitions_of t x)) (prompts_holds IsValue value_is t x)))
      ∙ ap (λ o. of (has_modules t b x) (map (prompt_value t b) (definitions_of t x)) o a) alone
      ∙ sym (ap (λ o. of (has_modules t b x) (map (prompt_value t b) (definitions_of t x)) o b) alone)

  member_same : (s : SymId) (x : SymbolValue) (c : ChoiceId) → slice_get t.symbols s.0 ≡ Some x → x.choice ≡ Some c → visibility t a x ≡ visibility t b x
  member_same s x c found of =
      let g : Assignment → Tri = λ d. least (greatest_of (map (prompt_value t d) (definitions_of t x))) (mode_around t d x.choice) in
      let plain : (d : Assignment) → visibility t d x ≡ in_bool (g d) = λ d. ap (λ k. in_type (k && not (is_no (modules_value t d))) (g d)) (ap (λ k. same_type k kind.Tristate) (grouped.kinds s c x of found)) in
      let marks : not (is_no (visibility t a x)) ≡ not (is_no (visibility t b x)) =
      ap (λ v. not (is_no v)) (sym (level u a s x here found))
      ∙ sym (mark u a s x c here found of)
      ∙ ap is_written (same s)
      ∙ mark w b s x c there found of
      ∙ ap (λ v. not (is_no v)) (level w b s x there found)
      in
      plain a
      ∙ bool_told (g a) (g b) (sym (ap is_no (plain a)) ∙ not_not (is_no (visibility t a x)) (is_no (visibility t b x)) marks ∙ ap is_no (plain b))
      ∙ sym (plain b)

  pub visibilities_same : (s : SymId) → IsNodeOf t (Vis s) → a (Vis s) ≡ b (Vis s)
  unfolding rule
  visibilities_same s node = here (Vis s) node ∙ go (slice_get t.symbols s.0) refl ∙ sym (there (Vis s) node)
    where
      one : (x : SymbolValue) → slice_get t.symbols s.0 ≡ Some x → (o : Option ChoiceId) → x.choice ≡ o → visibility t a x ≡ visibility t b x
      one x f None e = alone_same x e
      one x f (Some c) e = member_same s x c f e

      go : (o : Option SymbolValue) → slice_get t.symbols s.0 ≡ o → option_map_or (λ x. Level (visibility t a x)) o (Level No) ≡ option_map_or (λ x. Level (visibility t b x)) o (Level No)
      go None f = refl
      go (Some x) f = ap Level (one x f x.choice refl)
