-- A mode is read by visibilities and selections alone: neither values nor modes are computed from one.
use Rattle.std.proofs.Common.{◌≡◌, false, List, [], ◌∷◌, ◌++◌, Option, Some, None, slice_get, refl}
use Rattle.std.specs.List.{AllByRecursion, flat_map, filter_map}
use Rattle.std.specs.Option.{option_map_or}
use Rattle.kc_statement.specs.declared.id.SymId.{SymId}
use Rattle.kc_outline.specs.declared.id.ChoiceId.{ChoiceId}
use Rattle.kc_outline.specs.declared.choice.ChoiceDefault.{ChoiceDefault}
use Rattle.kc_tree.specs.declared.node.Node.{Node}
use Rattle.kc_tree.specs.declared.node.Node.TheVariants.{Vis, Val, Mode, Sel}
use Rattle.kc_outline.specs.TreeValue.{TreeValue, SymbolValue, ChoiceValue, definitions_of}
use Rattle.kc_tree.specs.Uses.{used_nodes, own_condition_nodes, definition_nodes, reverse_nodes, selection_nodes, choice_prompt_nodes, visibility_node, choice_default_nodes, type_nodes, free_value_nodes, symbol_value_nodes}
use Rattle.kc_value.specs.Assignment.{Assignment}
use Rattle.kc_value.specs.ChoiceRule.{default_member}
use Rattle.kc_value.specs.ChangedValue.{is_mode}
use Rattle.kc_value.specs.UserValues.{UserValues, user_value, chosen_in}
use Rattle.kc_value.specs.Rule.{rule}
use Rattle.kc_value.proofs.Agreement.{filter_map_agrees, default_member_agrees, val_agrees, of_mode_agrees}
use Rattle.kc_value.proofs.ReadNodes.{append_holds, flat_holds, option_holds, own_condition_holds, definition_holds, reverse_holds, choice_prompt_holds, type_holds, agree_where}

abbrev pub IsNoMode : Node → Type 0
IsNoMode n = is_mode n ≡ false

pub value_is_none : (s : SymId) → IsNoMode (Val s)
value_is_none s = refl

-- none of the nodes is a mode
abbrev pub NoModes : List Node → Type 0
NoModes ns = AllByRecursion IsNoMode ns

module _ (t : TreeValue) where
  visibility_node_holds : (s : SymId) → NoModes (visibility_node t s)
  visibility_node_holds s = option_holds IsNoMode (λ (x : SymbolValue). Vis s ∷ []) (λ x. (refl, tt)) (slice_get t.symbols s.0)

  choice_default_holds : (d : ChoiceDefault) → NoModes (choice_default_nodes t d)
  choice_default_holds d =
      append_holds IsNoMode (option_map_or (visibility_node t) d.symbol []) (own_condition_nodes t d.condition)
      (option_holds IsNoMode (visibility_node t) visibility_node_holds d.symbol) (own_condition_holds IsNoMode value_is_none t d.condition)

  pub members_hold : (ms : List SymId) → NoModes (flat_map (visibility_node t) ms)
  members_hold ms = flat_holds IsNoMode (visibility_node t) visibility_node_holds ms

  pub defaults_hold : (ds : List ChoiceDefault) → NoModes (flat_map (choice_default_nodes t) ds)
  defaults_hold ds = flat_holds IsNoMode (choice_default_nodes t) choice_default_holds ds

  free_value_holds : (s : SymId) (x : SymbolValue) → NoModes (free_value_nodes t s x)
  free_value_holds s x =
      let ds = flat_map (definition_nodes t) (definitions_of t x) in
      let ss = flat_map (reverse_nodes t) x.selected in
      let is = flat_map (reverse_nodes t) x.implied in (
        refl,
        append_holds IsNoMode ds (ss ++ (is ++ type_nodes t x)) (flat_holds IsNoMode (definition_nodes t) (definition_holds IsNoMode value_is_none t) (definitions_of t x))
            (append_holds IsNoMode ss (is ++ type_nodes t x) (flat_holds IsNoMode (reverse_nodes t) (reverse_holds IsNoMode value_is_none t) x.selected)
            (append_holds IsNoMode is (type_nodes t x) (flat_holds IsNoMode (reverse_nodes t) (reverse_holds IsNoMode value_is_none t) x.implied) (type_holds IsNoMode value_is_none t x))),
      )

  selection_holds : (c : ChoiceId) → NoModes (selection_nodes t c)
  selection_holds c = option_holds IsNoMode (λ (x : ChoiceValue). Sel c ∷ []) (λ x. (refl, tt)) (slice_get t.choices c.0)

  member_holds : (s : SymId) (x : SymbolValue) (o : Option ChoiceId) → NoModes (option_map_or (λ c. Vis s ∷ selection_nodes t c) o (free_value_nodes t s x))
  member_holds s x None = free_value_holds s x
  member_holds s x (Some c) = (refl, selection_holds c)

  symbol_value_holds : (s : SymId) (x : SymbolValue) → NoModes (symbol_value_nodes t s x)
  symbol_value_holds s x = member_holds s x x.choice

-- assignments that agree on all but the modes give a symbol the same value by its rule, and a choice the same mode
pub value_past_modes : (t : TreeValue) (u : UserValues) (a b : Assignment) (s : SymId) → ((n : Node) → is_mode n ≡ false → a n ≡ b n) → rule t u a (Val s) ≡ rule t u b (Val s)
unfolding rule
value_past_modes t u a b s same =
    val_agrees a b t s (user_value u s) (slice_get t.symbols s.0)
    (agree_where IsNoMode a b same (used_nodes t (Val s)) (option_holds IsNoMode (symbol_value_nodes t s) (symbol_value_holds t s) (slice_get t.symbols s.0)))

pub mode_past_modes : (t : TreeValue) (u : UserValues) (a b : Assignment) (c : ChoiceId) → ((n : Node) → is_mode n ≡ false → a n ≡ b n) → rule t u a (Mode c) ≡ rule t u b (Mode c)
unfolding rule
mode_past_modes t u a b c same =
    of_mode_agrees a b t (chosen_in u c) (slice_get t.choices c.0)
    (agree_where IsNoMode a b same (used_nodes t (Mode c)) (option_holds IsNoMode (choice_prompt_nodes t) (choice_prompt_holds IsNoMode value_is_none t) (slice_get t.choices c.0)))

pub default_members_past_modes : (t : TreeValue) (a b : Assignment) → ((n : Node) → is_mode n ≡ false → a n ≡ b n) → (ds : List ChoiceDefault)
    → filter_map (default_member t a) ds ≡ filter_map (default_member t b) ds
default_members_past_modes t a b same ds =
    filter_map_agrees a b (default_member t a) (default_member t b) (choice_default_nodes t) (default_member_agrees a b t) ds
    (agree_where IsNoMode a b same (flat_map (choice_default_nodes t) ds) (flat_holds IsNoMode (choice_default_nodes t) (choice_default_holds t) ds))
