-- What cells read, themselves and by conditions, is what the nodes are computed from.
use Rattle.std.proofs.Common.{◌≡◌, ◌↔◌, ℕ, zero, suc, ◌+◌, ◌<◌, List, [], ◌∷◌, ◌++◌, Option, Some, None, refl, sym, ap, subst, ◌∙◌, inl, inr, append_assoc, arith}
use Rattle.std.specs.List.{Contains, flat_map, slice_get}
use Rattle.std.specs.Option.{option_map_or}
use Rattle.std.proofs.lemmas.List.{append-nil}
use Rattle.std.proofs.lemmas.List.Elements.{Contains-append_cases}
use Rattle.std.proofs.lemmas.Grind.{flat_map-append}
use Rattle.std.proofs.lemmas.Option.{slice_get_within}
use Rattle.kc_statement.specs.declared.id.SymId.{SymId}
use Rattle.kc_statement.specs.declared.attribute.DefaultValue.{DefaultValue}
use Rattle.kc_statement.specs.declared.attribute.Prompt.{Prompt}
use Rattle.kc_statement.specs.declared.attribute.Range.{Range}
use Rattle.kc_outline.specs.declared.id.BlockId.{BlockId}
use Rattle.kc_outline.specs.declared.id.ChoiceId.{ChoiceId}
use Rattle.kc_outline.specs.declared.symbol.Reverse.{Reverse}
use Rattle.kc_outline.specs.Nested.{AreNested}
use Rattle.kc_outline.specs.TreeValue.{TreeValue, BlockValue, ChoiceValue, DefinitionValue, SymbolValue, blocks_around, choice_prompt_of, definitions_of, prompt_of}
use Rattle.kc_tree.specs.declared.node.Node.{Node}
use Rattle.kc_tree.specs.declared.node.Node.TheVariants.{Vis, Val, Mode, Sel}
use Rattle.kc_tree.specs.declared.cell.Cell.{Cell}
use Rattle.kc_tree.specs.declared.cell.Cell.TheVariants.{Node as OfNode, Definition, Depends, Visible}
use Rattle.kc_tree.specs.ConditionTable.{dependencies_in, of_member}
use Rattle.kc_tree.specs.Nodes.{IsNodeOf}
use Rattle.kc_tree.specs.Uses.{Uses, choice_prompt_nodes, choice_value_nodes, condition_nodes, conditions_nodes, default_nodes, definition_nodes, dependency_nodes, depends_nodes, free_value_nodes, own_condition_nodes, prompt_nodes, range_nodes, reverse_nodes, selection_nodes, symbol_nodes, symbol_value_nodes, term_nodes, type_nodes, used_nodes, value_nodes, visibility_nodes, visible_nodes}
use Rattle.kc_tree.specs.Cells.{IsCellOf, IsCondition, cell_number, choice_prompt_cells, condition_of, default_alone_nodes, definition_cells, depends_cells, free_value_cells, node_cells, nodes_in, prompt_cells, range_alone_nodes, read_cells, reverse_cells, symbol_value_cells, value_cells, visibility_cells, visible_cells}
use Rattle.kc_tree.specs.CellLaws.{Reads}
use Rattle.kc_tree.specs.CellLaws.Reads.{itself, through}
use Rattle.kc_tree.proofs.FlatLaws.{Contains-flat_map, HaveSameElements, contains_first, contains_nothing, first_or_later, flat_equal, flat_filtered, flat_flat, flat_map_cases, same_equal, same_flat, same_joined, same_then, same_with_last}
use Rattle.kc_tree.proofs.CellsWithin.{read_within}
use Rattle.kc_tree.proofs.NodeNumbers.{Contains-from_map}

module _ (t : TreeValue) where
  -- ---- the nodes that a cell leads to in one step
  -- a node to itself, and a condition to all that its factors read
  abbrev pub leads : Cell → List Node
  leads (OfNode n) = n ∷ []
  leads (Definition d) = condition_nodes t (condition_of t (Definition d))
  leads (Depends b) = condition_nodes t (condition_of t (Depends b))
  leads (Visible b) = condition_nodes t (condition_of t (Visible b))

  abbrev pub spread : List Cell → List Node
  spread cs = flat_map leads cs

  spread_nodes : (ns : List Node) → spread (nodes_in ns) ≡ ns
  spread_nodes [] = refl
  spread_nodes (n ∷ ns) = ap (λ ms. n ∷ ms) (spread_nodes ns)

  spread_joined : (xs ys : List Cell) → spread (xs ++ ys) ≡ spread xs ++ spread ys
  spread_joined xs ys = flat_map-append leads xs ys

  -- nodes, and then other cells
  spread_after : (ns : List Node) (cs : List Cell) → spread (nodes_in ns ++ cs) ≡ ns ++ spread cs
  spread_after ns cs = spread_joined (nodes_in ns) cs ∙ ap (λ ms. ms ++ spread cs) (spread_nodes ns)

  -- the conditions around
  spread_depends : (o : Option BlockId) → spread (depends_cells t o) ≡ depends_nodes t (blocks_around t o)
  spread_depends None = refl
  spread_depends (Some b) = at (slice_get t.blocks b.0) refl
    where
      at : (o : Option BlockValue) → slice_get t.blocks b.0 ≡ o → spread (depends_cells t (Some b)) ≡ depends_nodes t (blocks_around t (Some b))
      at None e = rw e refl
      at (Some x) e = ap (λ (o : Option BlockValue). spread (option_map_or (λ y. Depends b ∷ []) o [])) e ∙ append-nil (depends_nodes t (blocks_around t (Some b)))

  spread_visible : (o : Option BlockId) → spread (visible_cells t o) ≡ visible_nodes t (blocks_around t o)
  spread_visible None = refl
  spread_visible (Some b) = at (slice_get t.blocks b.0) refl
    where
      at : (o : Option BlockValue) → slice_get t.blocks b.0 ≡ o → spread (visible_cells t (Some b)) ≡ visible_nodes t (blocks_around t (Some b))
      at None e = rw e refl
      at (Some x) e = ap (λ (o : Option BlockValue). spread (option_map_or (λ y. Visible b ∷ []) o [])) e ∙ append-nil (visible_nodes t (blocks_around t (Some b)))

  spread_definition : (d : ℕ) → spread (definition_cells t d) ≡ condition_nodes t (dependencies_in (slice_get t.definitions d))
  spread_definition d = at (slice_get t.definitions d) refl
    where
      at : (o : Option DefinitionValue) → slice_get t.definitions d ≡ o → spread (definition_cells t d) ≡ condition_nodes t (dependencies_in (slice_get t.definitions d))
      at None e = rw e refl
      at (Some x) e = ap (λ (o : Option DefinitionValue). spread (option_map_or (λ y. Definition d ∷ []) o [])) e ∙ append-nil (condition_nodes t (dependencies_in (slice_get t.definitions d)))

  -- ---- a condition reads what its factors read
  spread_condition : AreNested t → (c : Cell) → IsCellOf t c → IsCondition c → leads c ≡ spread (read_cells t c)
  spread_condition nested (OfNode n) h is = absurd is
  spread_condition nested (Definition d) h is = at (slice_get t.definitions d)
    where
      at : (o : Option DefinitionValue) → condition_nodes t (dependencies_in o) ≡ spread (option_map_or (λ x. nodes_in (conditions_nodes t x.depends) ++ depends_cells t x.block) o [])
      at None = refl
      at (Some x) = sym (spread_after (conditions_nodes t x.depends) (depends_cells t x.block) ∙ ap (λ ms. conditions_nodes t x.depends ++ ms) (spread_depends x.block))
  spread_condition nested (Depends b) h is = at (slice_get t.blocks b.0) refl
    where
      at : (o : Option BlockValue) → slice_get t.blocks b.0 ≡ o → depends_nodes t (blocks_around t (Some b)) ≡ spread (read_cells t (Depends b))
      at None e = rw e refl
      at (Some x) e =
          ap (depends_nodes t) (nested.around b x e)
          ∙ sym (spread_after (conditions_nodes t x.depends) (depends_cells t x.parent) ∙ ap (λ ms. conditions_nodes t x.depends ++ ms) (spread_depends x.parent))
          ∙ ap (λ (o : Option BlockValue). spread (option_map_or (λ y. nodes_in (conditions_nodes t y.depends) ++ depends_cells t y.parent) o [])) (sym e)
  spread_condition nested (Visible b) h is = at (slice_get t.blocks b.0) refl
    where
      at : (o : Option BlockValue) → slice_get t.blocks b.0 ≡ o → visible_nodes t (blocks_around t (Some b)) ≡ spread (read_cells t (Visible b))
      at None e = rw e refl
      at (Some x) e =
          ap (visible_nodes t) (nested.around b x e)
          ∙ sym (spread_after (conditions_nodes t x.visible) (visible_cells t x.parent) ∙ ap (λ ms. conditions_nodes t x.visible ++ ms) (spread_visible x.parent))
          ∙ ap (λ (o : Option BlockValue). spread (option_map_or (λ y. nodes_in (conditions_nodes t y.visible) ++ visible_cells t y.parent) o [])) (sym e)

  -- ---- the parts of nodes
  of_prompt : (d : ℕ) → option_map_or (prompt_nodes t) (slice_get t.definitions d) [] ≡ spread (prompt_cells t d)
  of_prompt d = at (slice_get t.definitions d) refl
    where
      in_definition : (x : DefinitionValue) → slice_get t.definitions d ≡ Some x → (q : Option Prompt)
          → option_map_or (λ p. own_condition_nodes t p.condition ++ (dependency_nodes t x ++ visible_nodes t (blocks_around t x.block))) q []
          ≡ spread (option_map_or (λ p. nodes_in (own_condition_nodes t p.condition) ++ (Definition d ∷ visible_cells t x.block)) q [])
      in_definition x e None = refl
      in_definition x e (Some p) =
          let own = own_condition_nodes t p.condition in
          ap (λ (o : Option DefinitionValue). own ++ (condition_nodes t (dependencies_in o) ++ visible_nodes t (blocks_around t x.block))) (sym e)
          ∙ ap (λ ms. own ++ (condition_nodes t (dependencies_in (slice_get t.definitions d)) ++ ms)) (sym (spread_visible x.block))
          ∙ sym (spread_after own (Definition d ∷ visible_cells t x.block))

      at : (o : Option DefinitionValue) → slice_get t.definitions d ≡ o → option_map_or (prompt_nodes t) (slice_get t.definitions d) [] ≡ spread (prompt_cells t d)
      at None e = rw e refl
      at (Some x) e =
          ap (λ (o : Option DefinitionValue). option_map_or (prompt_nodes t) o []) e
          ∙ in_definition x e (prompt_of x)
          ∙ ap (λ (o : Option DefinitionValue). spread (option_map_or (λ y. option_map_or (λ p. nodes_in (own_condition_nodes t p.condition) ++ (Definition d ∷ visible_cells t y.block)) (prompt_of y) []) o [])) (sym e)

  of_prompts : (x : SymbolValue) → flat_map (prompt_nodes t) (definitions_of t x) ≡ spread (flat_map (prompt_cells t) x.definitions)
  of_prompts x =
      flat_filtered (prompt_nodes t) (slice_get t.definitions) x.definitions
      ∙ flat_equal (λ d. option_map_or (prompt_nodes t) (slice_get t.definitions d) []) (λ d. spread (prompt_cells t d)) x.definitions of_prompt
      ∙ sym (flat_flat leads (prompt_cells t) x.definitions)

  of_reverse : (r : Reverse) → reverse_nodes t r ≡ spread (reverse_cells t r)
  of_reverse r =
      let nodes = symbol_nodes t r.by ++ own_condition_nodes t r.condition in
      sym (append_assoc (symbol_nodes t r.by) (own_condition_nodes t r.condition) (condition_nodes t (dependencies_in (slice_get t.definitions r.definition))))
      ∙ ap (λ ms. nodes ++ ms) (sym (spread_definition r.definition))
      ∙ sym (spread_after nodes (definition_cells t r.definition))

  of_reverses : (rs : List Reverse) → flat_map (reverse_nodes t) rs ≡ spread (flat_map (reverse_cells t) rs)
  of_reverses rs = flat_equal (reverse_nodes t) (λ r. spread (reverse_cells t r)) rs of_reverse ∙ sym (flat_flat leads (reverse_cells t) rs)

  -- the defaults and ranges of a definition read what it depends on once more
  of_definition : (x : DefinitionValue) → HaveSameElements (definition_nodes t x) ((flat_map (default_alone_nodes t) x.defaults ++ flat_map (range_alone_nodes t) x.ranges) ++ dependency_nodes t x)
  of_definition x =
      let D = dependency_nodes t x in
      let defaults = flat_map (default_alone_nodes t) x.defaults in
      let ranges = flat_map (range_alone_nodes t) x.ranges in
      let apart : (v : DefaultValue) → default_nodes t x v ≡ default_alone_nodes t v ++ D = λ v. sym (append_assoc (value_nodes t v.value) (own_condition_nodes t v.condition) D) in
      let apart₂ : (r : Range) → range_nodes t x r ≡ range_alone_nodes t r ++ D = λ r.
      ap (λ ms. term_nodes t r.low ++ ms) (sym (append_assoc (term_nodes t r.high) (own_condition_nodes t r.condition) D))
      ∙ sym (append_assoc (term_nodes t r.low) (term_nodes t r.high ++ own_condition_nodes t r.condition) D) in
      let R = flat_map (range_nodes t x) x.ranges in
      let first : definition_nodes t x ≡ flat_map (λ v. default_alone_nodes t v ++ D) x.defaults ++ (R ++ D) = ap (λ ms. ms ++ (R ++ D)) (flat_equal (default_nodes t x) (λ v. default_alone_nodes t v ++ D) x.defaults apart) in
      let second : HaveSameElements (R ++ D) (ranges ++ D) =
      same_then (R ++ D) (flat_map (λ r. range_alone_nodes t r ++ D) x.ranges ++ D) (ranges ++ D)
      (same_equal _ _ (ap (λ ms. ms ++ D) (flat_equal (range_nodes t x) (λ r. range_alone_nodes t r ++ D) x.ranges apart₂)))
      (same_with_last (range_alone_nodes t) x.ranges [] D) in
      same_then (definition_nodes t x) (defaults ++ (R ++ D)) ((defaults ++ ranges) ++ D)
      (same_then (definition_nodes t x) _ (defaults ++ (R ++ D)) (same_equal _ _ first) (same_with_last (default_alone_nodes t) x.defaults R D))
      (same_then (defaults ++ (R ++ D)) (defaults ++ (ranges ++ D)) ((defaults ++ ranges) ++ D)
      (same_joined defaults defaults (R ++ D) (ranges ++ D) (same_equal defaults defaults refl) second)
      (same_equal _ _ (sym (append_assoc defaults ranges D))))

  of_value : (d : ℕ) → HaveSameElements (option_map_or (definition_nodes t) (slice_get t.definitions d) []) (spread (value_cells t d))
  of_value d = at (slice_get t.definitions d) refl
    where
      at : (o : Option DefinitionValue) → slice_get t.definitions d ≡ o → HaveSameElements (option_map_or (definition_nodes t) (slice_get t.definitions d) []) (spread (value_cells t d))
      at None e = rw e (same_equal [] [] refl)
      at (Some x) e =
          let nodes = flat_map (default_alone_nodes t) x.defaults ++ flat_map (range_alone_nodes t) x.ranges in
          let cells : spread (value_cells t d) ≡ nodes ++ dependency_nodes t x =
          ap (λ (o : Option DefinitionValue). spread (option_map_or (λ y. nodes_in (flat_map (default_alone_nodes t) y.defaults ++ flat_map (range_alone_nodes t) y.ranges) ++ (Definition d ∷ [])) o [])) e
          ∙ spread_after nodes (Definition d ∷ [])
          ∙ ap (λ ms. nodes ++ ms) (append-nil (condition_nodes t (dependencies_in (slice_get t.definitions d))))
          ∙ ap (λ (o : Option DefinitionValue). nodes ++ condition_nodes t (dependencies_in o)) e in
          same_then _ (definition_nodes t x) _ (same_equal _ _ (ap (λ (o : Option DefinitionValue). option_map_or (definition_nodes t) o []) e))
          (same_then (definition_nodes t x) (nodes ++ dependency_nodes t x) _ (of_definition x) (same_equal _ _ (sym cells)))

  of_values : (x : SymbolValue) → HaveSameElements (flat_map (definition_nodes t) (definitions_of t x)) (spread (flat_map (value_cells t) x.definitions))
  of_values x =
      let f : ℕ → List Node = λ d. option_map_or (definition_nodes t) (slice_get t.definitions d) [] in
      let g : ℕ → List Node = λ d. spread (value_cells t d) in
      same_then _ (flat_map f x.definitions) _ (same_equal _ _ (flat_filtered (definition_nodes t) (slice_get t.definitions) x.definitions))
      (same_then (flat_map f x.definitions) (flat_map g x.definitions) _ (same_flat f g x.definitions of_value) (same_equal _ _ (sym (flat_flat leads (value_cells t) x.definitions))))

  -- ---- nodes
  of_visibility : (x : SymbolValue) → visibility_nodes t x ≡ spread (visibility_cells t x)
  of_visibility x =
      let rest = type_nodes t x ++ condition_nodes t (of_member x) in
      ap (λ ms. ms ++ rest) (of_prompts x)
      ∙ ap (λ ms. spread (flat_map (prompt_cells t) x.definitions) ++ ms) (sym (spread_nodes rest))
      ∙ sym (spread_joined (flat_map (prompt_cells t) x.definitions) (nodes_in rest))

  of_free_value : (s : SymId) (x : SymbolValue) → HaveSameElements (free_value_nodes t s x) (spread (free_value_cells t s x))
  of_free_value s x =
      let rest : List Node = flat_map (reverse_nodes t) x.selected ++ (flat_map (reverse_nodes t) x.implied ++ type_nodes t x) in
      let cells : List Cell = flat_map (reverse_cells t) x.selected ++ (flat_map (reverse_cells t) x.implied ++ nodes_in (type_nodes t x)) in
      let values : List Cell = flat_map (value_cells t) x.definitions in
      let others : rest ≡ spread cells =
      ap (λ ms. ms ++ (flat_map (reverse_nodes t) x.implied ++ type_nodes t x)) (of_reverses x.selected)
      ∙ ap (λ ms. spread (flat_map (reverse_cells t) x.selected) ++ (ms ++ type_nodes t x)) (of_reverses x.implied)
      ∙ ap (λ ms. spread (flat_map (reverse_cells t) x.selected) ++ (spread (flat_map (reverse_cells t) x.implied) ++ ms)) (sym (spread_nodes (type_nodes t x)))
      ∙ ap (λ ms. spread (flat_map (reverse_cells t) x.selected) ++ ms) (sym (spread_joined (flat_map (reverse_cells t) x.implied) (nodes_in (type_nodes t x))))
      ∙ sym (spread_joined (flat_map (reverse_cells t) x.selected) (flat_map (reverse_cells t) x.implied ++ nodes_in (type_nodes t x))) in
      let joined : HaveSameElements (flat_map (definition_nodes t) (definitions_of t x) ++ rest) (spread (values ++ cells)) =
      same_then _ (spread values ++ spread cells) _
      (same_joined (flat_map (definition_nodes t) (definitions_of t x)) (spread values) rest (spread cells) (of_values x) (same_equal rest (spread cells) others))
      (same_equal _ _ (sym (spread_joined values cells))) in
      same_joined (Vis s ∷ []) (Vis s ∷ []) _ (spread (values ++ cells)) (same_equal (Vis s ∷ []) (Vis s ∷ []) refl) joined

  of_symbol_value : (s : SymId) (x : SymbolValue) → HaveSameElements (symbol_value_nodes t s x) (spread (symbol_value_cells t s x))
  of_symbol_value s x = at x.choice
    where
      at : (o : Option ChoiceId) → HaveSameElements (option_map_or (λ c. Vis s ∷ selection_nodes t c) o (free_value_nodes t s x)) (spread (option_map_or (λ c. nodes_in (Vis s ∷ selection_nodes t c)) o (free_value_cells t s x)))
      at None = of_free_value s x
      at (Some c) = same_equal _ _ (sym (spread_nodes (Vis s ∷ selection_nodes t c)))

  of_choice_prompt : (x : ChoiceValue) → choice_prompt_nodes t x ≡ spread (choice_prompt_cells t x)
  of_choice_prompt x = at (choice_prompt_of x)
    where
      around : Option BlockId
      around = Some x.block

      at : (o : Option Prompt) → option_map_or (λ p. own_condition_nodes t p.condition ++ (depends_nodes t (blocks_around t (Some x.block)) ++ visible_nodes t (blocks_around t (Some x.block)))) o []
          ≡ spread (option_map_or (λ p. nodes_in (own_condition_nodes t p.condition) ++ (depends_cells t (Some x.block) ++ visible_cells t (Some x.block))) o [])
      at None = refl
      at (Some p) =
          let own = own_condition_nodes t p.condition in
          ap (λ ms. own ++ (ms ++ visible_nodes t (blocks_around t (Some x.block)))) (sym (spread_depends (Some x.block)))
          ∙ ap (λ ms. own ++ (spread (depends_cells t (Some x.block)) ++ ms)) (sym (spread_visible (Some x.block)))
          ∙ ap (λ ms. own ++ ms) (sym (spread_joined (depends_cells t (Some x.block)) (visible_cells t (Some x.block))))
          ∙ sym (spread_after own (depends_cells t (Some x.block) ++ visible_cells t (Some x.block)))

  -- a node is computed from all that the cells lead to that it reads
  of_node : (n : Node) → HaveSameElements (used_nodes t n) (spread (node_cells t n))
  of_node (Vis s) = at (slice_get t.symbols s.0)
    where
      at : (o : Option SymbolValue) → HaveSameElements (option_map_or (visibility_nodes t) o []) (spread (option_map_or (visibility_cells t) o []))
      at None = same_equal [] [] refl
      at (Some x) = same_equal _ _ (of_visibility x)
  of_node (Val s) = at (slice_get t.symbols s.0)
    where
      at : (o : Option SymbolValue) → HaveSameElements (option_map_or (symbol_value_nodes t s) o []) (spread (option_map_or (symbol_value_cells t s) o []))
      at None = same_equal [] [] refl
      at (Some x) = of_symbol_value s x
  of_node (Mode c) = at (slice_get t.choices c.0)
    where
      at : (o : Option ChoiceValue) → HaveSameElements (option_map_or (choice_prompt_nodes t) o []) (spread (option_map_or (choice_prompt_cells t) o []))
      at None = same_equal [] [] refl
      at (Some x) = same_equal _ _ (of_choice_prompt x)
  of_node (Sel c) = same_equal _ _ (sym (spread_nodes (option_map_or (choice_value_nodes t c) (slice_get t.choices c.0) [])))

  -- ---- conditions read lower conditions
  no_condition : (ns : List Node) (e : Cell) → IsCondition e → Contains (nodes_in ns) e → ⊥
  no_condition ns e is c = let r = Contains-from_map OfNode ns e c in absurd (subst IsCondition (sym r.2) is)

  one_of : {X : Type 0} (c e : Cell) (o : Option X) → Contains (option_map_or (λ x. c ∷ []) o []) e → c ≡ e
  one_of c e None h = absurd (contains_nothing e h)
  one_of c e (Some x) h = elim (first_or_later c e [] h) [
    | inl same ↦ same
    | inr none ↦ absurd (contains_nothing e none)
  ]

  -- by a measure of cells, each condition among these is below a number
  module _ (measure : Cell → ℕ) where
    abbrev pub AreLower : ℕ → List Cell → Type 0
    AreLower k cs = (e : Cell) → IsCondition e → Contains cs e → measure e < k

    pub lower_after : (k : ℕ) (ns : List Node) (cs : List Cell) → AreLower k cs → AreLower k (nodes_in ns ++ cs)
    lower_after k ns cs h e is c = elim (Contains-append_cases (nodes_in ns) cs e c) [
      | inl n ↦ absurd (no_condition ns e is n)
      | inr r ↦ h e is r
    ]

    pub lower_option : {X : Type 0} (k : ℕ) (f : X → List Cell) (o : Option X) → ((x : X) → o ≡ Some x → AreLower k (f x)) → AreLower k (option_map_or f o [])
    lower_option k f None h = λ e is c. absurd (contains_nothing e c)
    lower_option k f (Some x) h = h x refl

    pub lower_depends : (k : ℕ) (o : Option BlockId) → ((b : BlockId) → o ≡ Some b → (x : BlockValue) → slice_get t.blocks b.0 ≡ Some x → measure (Depends b) < k) → AreLower k (depends_cells t o)
    lower_depends k None h = λ e is c. absurd (contains_nothing e c)
    lower_depends k (Some b) h = lower_option k (λ x. Depends b ∷ []) (slice_get t.blocks b.0) (λ x there e is c.
        subst (λ (d : Cell). measure d < k) (one_of (Depends b) e (Some x) c) (h b refl x there))

    pub lower_visible : (k : ℕ) (o : Option BlockId) → ((b : BlockId) → o ≡ Some b → (x : BlockValue) → slice_get t.blocks b.0 ≡ Some x → measure (Visible b) < k) → AreLower k (visible_cells t o)
    lower_visible k None h = λ e is c. absurd (contains_nothing e c)
    lower_visible k (Some b) h = lower_option k (λ x. Visible b ∷ []) (slice_get t.blocks b.0) (λ x there e is c.
        subst (λ (d : Cell). measure d < k) (one_of (Visible b) e (Some x) c) (h b refl x there))

  module _ (nested : AreNested t) where
    pub lower_condition : (c : Cell) → IsCondition c → AreLower (cell_number t) (cell_number t c) (read_cells t c)
    lower_condition (OfNode n) is = absurd is
    lower_condition (Definition d) is =
        let k = cell_number t (Definition d) in
        lower_option (cell_number t) k (λ x. nodes_in (conditions_nodes t x.depends) ++ depends_cells t x.block) (slice_get t.definitions d)
        (λ x there. lower_after (cell_number t) k (conditions_nodes t x.depends) (depends_cells t x.block) (lower_depends (cell_number t) k x.block (λ b up y within. let inside = slice_get_within t.blocks b.0 y within in omega (arith, inside))))
    lower_condition (Depends b) is =
        let k = cell_number t (Depends b) in
        lower_option (cell_number t) k (λ x. nodes_in (conditions_nodes t x.depends) ++ depends_cells t x.parent) (slice_get t.blocks b.0)
        (λ x there. lower_after (cell_number t) k (conditions_nodes t x.depends) (depends_cells t x.parent) (lower_depends (cell_number t) k x.parent (λ p up y within. let down = nested.after b x p there up in omega (arith, down))))
    lower_condition (Visible b) is =
        let k = cell_number t (Visible b) in
        lower_option (cell_number t) k (λ x. nodes_in (conditions_nodes t x.visible) ++ visible_cells t x.parent) (slice_get t.blocks b.0)
        (λ x there. lower_after (cell_number t) k (conditions_nodes t x.visible) (visible_cells t x.parent) (lower_visible (cell_number t) k x.parent (λ p up y within. let down = nested.after b x p there up in omega (arith, down))))

    -- ---- what a cell reads, itself and by conditions
    reads_from : (c : Cell) (m : Node) → ((e : Cell) → Contains (read_cells t c) e → IsCondition e → Contains (leads e) m → Reads t e m) → Contains (spread (read_cells t c)) m → Reads t c m
    reads_from c m by held = let r = flat_map_cases leads (read_cells t c) m held in step r.0 r.1 r.2
      where
        step : (e : Cell) → Contains (read_cells t c) e → Contains (leads e) m → Reads t c m
        step (OfNode n) listed lead = elim (first_or_later n m [] lead) [
          | inl same ↦ itself (subst (λ (k : Node). Contains (read_cells t c) (OfNode k)) same listed)
          | inr none ↦ absurd (contains_nothing m none)
        ]
        step (Definition d) listed lead = through tt listed (by (Definition d) listed tt lead)
        step (Depends b) listed lead = through tt listed (by (Depends b) listed tt lead)
        step (Visible b) listed lead = through tt listed (by (Visible b) listed tt lead)

    condition_reads : (fuel : ℕ) (c : Cell) (m : Node) → cell_number t c < fuel → IsCellOf t c → IsCondition c → Contains (leads c) m → Reads t c m
    condition_reads zero c m small inside is lead = absurd (omega (arith, small))
    condition_reads (suc f) c m small inside is lead =
        reads_from c m
        (λ e listed ise there. let lower = lower_condition c is e ise listed in condition_reads f e m (omega (arith, lower, small)) (read_within t c e inside listed) ise there)
        (subst (λ ns. Contains ns m) (spread_condition nested c inside is) lead)

    held : (c : Cell) (m : Node) → IsCellOf t c → Reads t c m → Contains (spread (read_cells t c)) m
    held c m inside (itself listed) = Contains-flat_map leads (read_cells t c) (OfNode m) m listed (contains_first m [])
    held c m inside (through {e = e} is listed rest) =
        let there = read_within t c e inside listed in
        Contains-flat_map leads (read_cells t c) e m listed (subst (λ ns. Contains ns m) (sym (spread_condition nested e there is)) (held e m there rest))

    pub uses_reads : (n m : Node) → IsNodeOf t n → Uses t n m ↔ Reads t (OfNode n) m
    unfolding Uses
    uses_reads n m inside = (
      λ u. reads_from (OfNode n) m
          (λ e listed is there. condition_reads (suc (cell_number t e)) e m (omega arith) (read_within t (OfNode n) e inside listed) is there)
          ((of_node n).to m u),
      λ r. (of_node n).from m (held (OfNode n) m inside r),
    )

    leads_is : (c : Cell) → IsCondition c → condition_nodes t (condition_of t c) ≡ leads c
    leads_is (OfNode n) is = absurd is
    leads_is (Definition d) is = refl
    leads_is (Depends b) is = refl
    leads_is (Visible b) is = refl

    pub factors_read : (c : Cell) (m : Node) → IsCellOf t c → IsCondition c → Contains (condition_nodes t (condition_of t c)) m ↔ Reads t c m
    factors_read c m inside is = (
      λ there. condition_reads (suc (cell_number t c)) c m (omega arith) inside is (subst (λ ns. Contains ns m) (leads_is c is) there),
      λ r. subst (λ ns. Contains ns m) (sym (spread_condition nested c inside is) ∙ sym (leads_is c is)) (held c m inside r),
    )
