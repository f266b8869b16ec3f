-- What a cell of a tree reads is a cell of the tree.
use Rattle.std.proofs.Common.{◌≡◌, ℕ, ◌<◌, List, [], ◌∷◌, ◌++◌, length, Option, Some, None, refl}
use Rattle.std.specs.List.{Contains, flat_map, slice_get}
use Rattle.std.specs.Option.{option_map_or}
use Rattle.std.proofs.lemmas.List.Elements.{All-cons, All-contains, All-map}
use Rattle.std.proofs.lemmas.Option.{slice_get_within}
use Rattle.kc_statement.specs.declared.id.SymId.{SymId}
use Rattle.kc_statement.specs.declared.attribute.Prompt.{Prompt}
use Rattle.kc_outline.specs.declared.id.BlockId.{BlockId}
use Rattle.kc_outline.specs.declared.id.ChoiceId.{ChoiceId}
use Rattle.kc_outline.specs.declared.symbol.Reverse.{Reverse}
use Rattle.kc_outline.specs.TreeValue.{TreeValue, ChoiceValue, DefinitionValue, SymbolValue, choice_prompt_of, prompt_of}
use Rattle.kc_tree.specs.declared.node.Node.{Node}
use Rattle.kc_tree.specs.declared.node.Node.TheVariants.{Vis, Val, Mode, Sel}
use Rattle.kc_tree.specs.declared.cell.Cell.{Cell}
use Rattle.kc_tree.specs.declared.cell.Cell.TheVariants.{Node as OfNode, Definition, Depends, Visible}
use Rattle.kc_tree.specs.ConditionTable.{of_member}
use Rattle.kc_tree.specs.Nodes.{IsNodeOf}
use Rattle.kc_tree.specs.Uses.{condition_nodes, conditions_nodes, choice_value_nodes, mode_nodes, own_condition_nodes, selection_nodes, symbol_nodes, type_nodes}
use Rattle.kc_tree.specs.Cells.{IsCellOf, choice_prompt_cells, default_alone_nodes, definition_cells, depends_cells, free_value_cells, nodes_in, prompt_cells, range_alone_nodes, read_cells, reverse_cells, symbol_value_cells, value_cells, visibility_cells, visible_cells}
use Rattle.kc_tree.proofs.WithinLaws.{Are, none, joined, flat, option, symbol, own_condition, conditions, default_alone, range_alone, typed, moded, selected, choice_value}

module _ (t : TreeValue) where
  abbrev IsNode : Node → Type 0
  IsNode n = IsNodeOf t n

  abbrev IsCell : Cell → Type 0
  IsCell c = IsCellOf t c

  cells_of : (ns : List Node) → Are IsNode ns → Are IsCell (nodes_in ns)
  cells_of ns h = All-map IsCell OfNode ns h

  -- a cell where a list has an element
  guarded : {X : Type 0} (c : Cell) (xs : List X) (k : ℕ) → (k < length xs → IsCell c) → Are IsCell (option_map_or (λ x. c ∷ []) (slice_get xs k) [])
  guarded {X} c xs k h = at (slice_get xs k) refl
    where
      at : (o : Option X) → slice_get xs k ≡ o → Are IsCell (option_map_or (λ x. c ∷ []) o [])
      at None e = none IsCell
      at (Some x) e = All-cons IsCell c [] (h (slice_get_within xs k x e)) (none IsCell)

  in_definition : (d : ℕ) → Are IsCell (definition_cells t d)
  in_definition d = guarded (Definition d) t.definitions d (λ h. h)

  in_depends : (o : Option BlockId) → Are IsCell (depends_cells t o)
  in_depends None = none IsCell
  in_depends (Some b) = guarded (Depends b) t.blocks b.0 (λ h. h)

  in_visible : (o : Option BlockId) → Are IsCell (visible_cells t o)
  in_visible None = none IsCell
  in_visible (Some b) = guarded (Visible b) t.blocks b.0 (λ h. h)

  value_is : (s : SymId) → s.0 < length t.symbols → IsNode (Val s)
  value_is s h = h

  in_own : (p : Prompt) → Are IsCell (nodes_in (own_condition_nodes t p.condition))
  in_own p = cells_of (own_condition_nodes t p.condition) (own_condition t IsNode value_is p.condition)

  -- ---- the parts of nodes
  in_prompt : (d : ℕ) → Are IsCell (prompt_cells t d)
  in_prompt d = at (slice_get t.definitions d) refl
    where
      at : (o : Option DefinitionValue) → slice_get t.definitions d ≡ o → Are IsCell (option_map_or (λ x. option_map_or (λ p. nodes_in (own_condition_nodes t p.condition) ++ (Definition d ∷ visible_cells t x.block)) (prompt_of x) []) o [])
      at None e = none IsCell
      at (Some x) e = option IsCell (λ p. nodes_in (own_condition_nodes t p.condition) ++ (Definition d ∷ visible_cells t x.block)) (prompt_of x)
          (λ p. joined IsCell (nodes_in (own_condition_nodes t p.condition)) (Definition d ∷ visible_cells t x.block) (in_own p)
          (All-cons IsCell (Definition d) (visible_cells t x.block) (slice_get_within t.definitions d x e) (in_visible x.block)))

  in_value : (d : ℕ) → Are IsCell (value_cells t d)
  in_value d = at (slice_get t.definitions d) refl
    where
      at : (o : Option DefinitionValue) → slice_get t.definitions d ≡ o → Are IsCell (option_map_or (λ x. nodes_in (flat_map (default_alone_nodes t) x.defaults ++ flat_map (range_alone_nodes t) x.ranges) ++ (Definition d ∷ [])) o [])
      at None e = none IsCell
      at (Some x) e =
          let nodes = flat_map (default_alone_nodes t) x.defaults ++ flat_map (range_alone_nodes t) x.ranges in
          joined IsCell (nodes_in nodes) (Definition d ∷ [])
          (cells_of nodes (joined IsNode (flat_map (default_alone_nodes t) x.defaults) (flat_map (range_alone_nodes t) x.ranges)
          (flat IsNode (default_alone_nodes t) x.defaults (default_alone t IsNode value_is)) (flat IsNode (range_alone_nodes t) x.ranges (range_alone t IsNode value_is))))
          (All-cons IsCell (Definition d) [] (slice_get_within t.definitions d x e) (none IsCell))

  in_reverse : (r : Reverse) → Are IsCell (reverse_cells t r)
  in_reverse r =
      let nodes = symbol_nodes t r.by ++ own_condition_nodes t r.condition in
      joined IsCell (nodes_in nodes) (definition_cells t r.definition)
      (cells_of nodes (joined IsNode (symbol_nodes t r.by) (own_condition_nodes t r.condition) (symbol t IsNode value_is r.by) (own_condition t IsNode value_is r.condition)))
      (in_definition r.definition)

  in_type : (x : SymbolValue) → Are IsCell (nodes_in (type_nodes t x))
  in_type x = cells_of (type_nodes t x) (typed t IsNode value_is x)

  in_selection : (c : ChoiceId) → Are IsNode (selection_nodes t c)
  in_selection c = selected t IsNode (λ s h. h) (λ s h. h) (λ c h. h) (λ c h. h) c

  in_visibility : (x : SymbolValue) → Are IsCell (visibility_cells t x)
  in_visibility x =
      let rest = type_nodes t x ++ condition_nodes t (of_member x) in
      joined IsCell (flat_map (prompt_cells t) x.definitions) (nodes_in rest) (flat IsCell (prompt_cells t) x.definitions in_prompt)
      (cells_of rest (joined IsNode (type_nodes t x) (condition_nodes t (of_member x)) (typed t IsNode value_is x)
      (option IsNode (mode_nodes t) x.choice (moded t IsNode (λ s h. h) (λ s h. h) (λ c h. h) (λ c h. h)))))

  in_free_value : (s : SymId) (x : SymbolValue) → s.0 < length t.symbols → Are IsCell (free_value_cells t s x)
  in_free_value s x h =
      All-cons IsCell (OfNode (Vis s)) _ h
      (joined IsCell (flat_map (value_cells t) x.definitions) _ (flat IsCell (value_cells t) x.definitions in_value)
      (joined IsCell (flat_map (reverse_cells t) x.selected) _ (flat IsCell (reverse_cells t) x.selected in_reverse)
      (joined IsCell (flat_map (reverse_cells t) x.implied) (nodes_in (type_nodes t x)) (flat IsCell (reverse_cells t) x.implied in_reverse) (in_type x))))

  in_symbol_value : (s : SymId) (x : SymbolValue) → s.0 < length t.symbols → Are IsCell (symbol_value_cells t s x)
  in_symbol_value s x h = at x.choice
    where
      at : (o : Option ChoiceId) → Are IsCell (option_map_or (λ c. nodes_in (Vis s ∷ selection_nodes t c)) o (free_value_cells t s x))
      at None = in_free_value s x h
      at (Some c) = cells_of (Vis s ∷ selection_nodes t c) (All-cons IsNode (Vis s) (selection_nodes t c) h (in_selection c))

  in_choice_prompt : (x : ChoiceValue) → Are IsCell (choice_prompt_cells t x)
  in_choice_prompt x = option IsCell (λ p. nodes_in (own_condition_nodes t p.condition) ++ (depends_cells t (Some x.block) ++ visible_cells t (Some x.block))) (choice_prompt_of x)
      (λ p. joined IsCell (nodes_in (own_condition_nodes t p.condition)) _ (in_own p)
      (joined IsCell (depends_cells t (Some x.block)) (visible_cells t (Some x.block)) (in_depends (Some x.block)) (in_visible (Some x.block))))

  -- ---- cells
  cells_within : (c : Cell) → IsCell c → Are IsCell (read_cells t c)
  cells_within (OfNode (Vis s)) h = option IsCell (visibility_cells t) (slice_get t.symbols s.0) in_visibility
  cells_within (OfNode (Val s)) h = option IsCell (symbol_value_cells t s) (slice_get t.symbols s.0) (λ x. in_symbol_value s x h)
  cells_within (OfNode (Mode c)) h = option IsCell (choice_prompt_cells t) (slice_get t.choices c.0) in_choice_prompt
  cells_within (OfNode (Sel c)) h = cells_of (option_map_or (choice_value_nodes t c) (slice_get t.choices c.0) [])
      (option IsNode (choice_value_nodes t c) (slice_get t.choices c.0) (choice_value t IsNode (λ s h. h) (λ s h. h) (λ c h. h) (λ c h. h) c))
  cells_within (Definition d) h = option IsCell (λ x. nodes_in (conditions_nodes t x.depends) ++ depends_cells t x.block) (slice_get t.definitions d)
      (λ x. joined IsCell (nodes_in (conditions_nodes t x.depends)) (depends_cells t x.block) (cells_of (conditions_nodes t x.depends) (conditions t IsNode value_is x.depends)) (in_depends x.block))
  cells_within (Depends b) h = option IsCell (λ x. nodes_in (conditions_nodes t x.depends) ++ depends_cells t x.parent) (slice_get t.blocks b.0)
      (λ x. joined IsCell (nodes_in (conditions_nodes t x.depends)) (depends_cells t x.parent) (cells_of (conditions_nodes t x.depends) (conditions t IsNode value_is x.depends)) (in_depends x.parent))
  cells_within (Visible b) h = option IsCell (λ x. nodes_in (conditions_nodes t x.visible) ++ visible_cells t x.parent) (slice_get t.blocks b.0)
      (λ x. joined IsCell (nodes_in (conditions_nodes t x.visible)) (visible_cells t x.parent) (cells_of (conditions_nodes t x.visible) (conditions t IsNode value_is x.visible)) (in_visible x.parent))

  pub read_within : (c e : Cell) → IsCellOf t c → Contains (read_cells t c) e → IsCellOf t e
  read_within c e h r = All-contains (λ x. IsCellOf t x) (read_cells t c) e (cells_within c h) r
