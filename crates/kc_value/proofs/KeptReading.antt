-- The visibility of a symbol, and the mode of a choice, are read for its value.
use Rattle.std.proofs.Common.{◌≡◌, ◌<◌, [], ◌∷◌, ◌++◌, Option, Some, None, length, refl, sym, ap, subst, ⊎_elim, arith}
use Rattle.std.specs.List.{Contains, flat_map}
use Rattle.std.specs.Option.{option_map_or}
use Rattle.std.proofs.lemmas.Option.{slice_get_cases}
use Rattle.kc_statement.specs.declared.id.SymId.{SymId}
use Rattle.kc_outline.specs.declared.id.ChoiceId.{ChoiceId}
use Rattle.kc_outline.specs.TreeValue.{TreeValue, SymbolValue, ChoiceValue}
use Rattle.kc_tree.specs.declared.node.Node.TheVariants.{Vis, Val, Mode, Sel}
use Rattle.kc_tree.specs.Uses.{Uses, mode_nodes, selection_nodes, visibility_node, choice_default_nodes, free_value_nodes, symbol_value_nodes, choice_value_nodes}

module _ (t : TreeValue) where
  first_of_value : (s : SymId) (x : SymbolValue) (o : Option ChoiceId) → Contains (option_map_or (λ c. Vis s ∷ selection_nodes t c) o (free_value_nodes t s x)) (Vis s)
  first_of_value s x None = (0, omega arith, refl)
  first_of_value s x (Some c) = (0, omega arith, refl)

  -- the value of a symbol is computed from its visibility
  pub visibility_used : (s : SymId) → s.0 < length t.symbols → Uses t (Val s) (Vis s)
  unfolding Uses
  visibility_used s inside =
      ⊎_elim
      (λ there. subst (λ o. Contains (option_map_or (symbol_value_nodes t s) o []) (Vis s)) (sym there.2) (first_of_value s there.0 there.0.choice))
      (λ past. absurd (omega (arith, inside, past.0)))
      ((slice_get_cases t.symbols s.0).1)

  first_of_selection : (c : ChoiceId) (x : ChoiceValue) → mode_nodes t c ≡ Mode c ∷ [] → Contains (choice_value_nodes t c x) (Mode c)
  first_of_selection c x one =
      let rest = flat_map (visibility_node t) x.members ++ flat_map (choice_default_nodes t) x.defaults in
      subst (λ ns. Contains (ns ++ rest) (Mode c)) (sym one) (0, omega arith, refl)

  -- the selection of a choice is computed from its mode
  pub mode_used : (c : ChoiceId) → c.0 < length t.choices → Uses t (Sel c) (Mode c)
  unfolding Uses
  mode_used c inside =
      ⊎_elim
      (λ there. subst (λ o. Contains (option_map_or (choice_value_nodes t c) o []) (Mode c)) (sym there.2) (first_of_selection c there.0 (ap (λ (o : Option ChoiceValue). option_map_or (λ x. Mode c ∷ []) o []) there.2)))
      (λ past. absurd (omega (arith, inside, past.0)))
      ((slice_get_cases t.choices c.0).1)
