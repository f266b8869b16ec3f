-- Rows of the numbers of cells while they are made, one step after another.
use Rattle.std.proofs.Common.{◌≡◌, ℕ, ◌+◌, ◌<◌, ◌≤◌, ◌||◌, eqb, List, [], ◌∷◌, ◌++◌, length, get_or, take, map, Option, Some, None, sym, ap, subst, ◌∙◌, inl, inr, ◌⊎◌, arith, length-append}
use Rattle.std.specs.List.{flat_map, All, Contains, slice_get}
use Rattle.std.specs.Option.{option_map_or}
use Rattle.std.proofs.Math.Bool.{or_assoc}
use Rattle.std.proofs.lemmas.Bool.{cases_lt}
use Rattle.std.proofs.lemmas.List.{take_more, append-nil, get_or_append_left, get_or_push, length-map, length_push}
use Rattle.std.proofs.lemmas.List.Elements.{All-contains, Contains-get_or}
use Rattle.std.proofs.lemmas.List.Folds.{list_any-append}
use Rattle.std.proofs.lemmas.Grind.{flat_map-append}
use Rattle.kc_outline.specs.declared.id.BlockId.{BlockId}
use Rattle.kc_outline.specs.TreeValue.{TreeValue, DefinitionValue}
use Rattle.kc_tree.specs.declared.node.Node.{Node}
use Rattle.kc_tree.specs.declared.cell.Cell.{Cell}
use Rattle.kc_tree.specs.declared.cell.Cell.TheVariants.{Node as OfNode, Definition, Depends, Visible}
use Rattle.kc_tree.specs.Nodes.{IsNodeOf, node_count}
use Rattle.kc_tree.specs.Cells.{cell_at, cell_number, definition_cells, depends_cells, nodes_in, read_cells, visible_cells}
use Rattle.kc_tree.specs.CellRows.{Adds, AddsCells, AreRowsTo, HaveSame, IsRowOf, has_cell, has_node, has_number}
use Rattle.kc_tree.proofs.NodeNumbers.{number_below}
use Rattle.kc_tree.proofs.RowLaws.{any_map, node_found, number_found, or_false}

module _ (t : TreeValue) where
  -- ---- a step after another
  pub cells_none : (r : List ℕ) → AddsCells t r r []
  cells_none r = record { has = λ k. or_false (has_number r k) }

  pub cells_then : (a b c : List ℕ) (xs ys : List Cell) → AddsCells t a b xs → AddsCells t b c ys → AddsCells t a c (xs ++ ys)
  cells_then a b c xs ys f g = record {
    has = λ k.
        g.has k
        ∙ ap (λ x. x || has_cell t ys k) (f.has k)
        ∙ or_assoc (has_number a k) (has_cell t xs k) (has_cell t ys k)
        ∙ ap (λ x. has_number a k || x) (sym (list_any-append (λ c. eqb (cell_number t c) k) xs ys));
  }

  pub cells_equal : (a b : List ℕ) (xs ys : List Cell) → xs ≡ ys → AddsCells t a b xs → AddsCells t a b ys
  cells_equal a b xs ys e f = subst (λ cs. AddsCells t a b cs) e f

  -- numbers of cells are added
  pub cells_appended : (a b : List ℕ) (cs : List Cell) → b ≡ a ++ map (cell_number t) cs → AddsCells t a b cs
  cells_appended a b cs e = record {
    has = λ k.
        ap (λ r. has_number r k) e
        ∙ list_any-append (λ j. eqb j k) a (map (cell_number t) cs)
        ∙ ap (λ x. has_number a k || x) (any_map (λ j. eqb j k) (cell_number t) cs);
  }

  -- nodes are cells
  pub cells_of_nodes : (a b : List ℕ) (ns : List Node) → Adds (length t.symbols) a b ns → AddsCells t a b (nodes_in ns)
  cells_of_nodes a b ns f = record { has = λ k. f.has k ∙ ap (λ x. has_number a k || x) (sym (any_map (λ c. eqb (cell_number t c) k) OfNode ns)) }

  -- what the element of a list reads, where there is one
  pub cells_there : {X : Type 0} (f : X → List Cell) (xs : List X) (k : ℕ) (x : X) (a b : List ℕ) → slice_get xs k ≡ Some x → AddsCells t a b (f x) → AddsCells t a b (option_map_or f (slice_get xs k) [])
  cells_there {X} f xs k x a b there h = subst (λ (o : Option X). AddsCells t a b (option_map_or f o [])) (sym there) h

  pub cells_some : {X : Type 0} (f : X → List Cell) (o : Option X) (x : X) (a b : List ℕ) → o ≡ Some x → AddsCells t a b (f x) → AddsCells t a b (option_map_or f o [])
  cells_some {X} f o x a b there h = subst (λ (o : Option X). AddsCells t a b (option_map_or f o [])) (sym there) h

  -- one more element of a list, at a step of a loop
  pub cells_more : {X : Type 0} (f : X → List Cell) (xs : List X) (i : ℕ) (x : X) (a b c : List ℕ) → i < length xs → x ≡ get_or xs i x → AddsCells t a b (flat_map f (take i xs)) → AddsCells t b c (f x) → AddsCells t a c (flat_map f (take (i + 1) xs))
  cells_more f xs i x a b c h e g k =
      let one : take (i + 1) xs ≡ take i xs ++ x ∷ [] = take_more xs i x h ∙ ap (λ y. take i xs ++ y ∷ []) (sym e) in
      let all : flat_map f (take i xs) ++ f x ≡ flat_map f (take (i + 1) xs) = ap (λ cs. flat_map f (take i xs) ++ cs) (sym (append-nil (f x))) ∙ sym (ap (flat_map f) one ∙ flat_map-append f (take i xs) (x ∷ [])) in
      cells_equal a c _ _ all (cells_then a b c (flat_map f (take i xs)) (f x) g k)

  -- a definition that the tree has
  pub definition_there : (n : ℕ) (d : DefinitionValue) → slice_get t.definitions n ≡ Some d → definition_cells t n ≡ Definition n ∷ []
  definition_there n d there = ap (λ (o : Option DefinitionValue). option_map_or (λ x. Definition n ∷ []) o []) there

  -- at most one block is around
  one_at_most : {X : Type 0} (c : Cell) (o : Option X) → length (option_map_or (λ x. c ∷ []) o []) ≤ 1
  one_at_most c None = omega arith
  one_at_most c (Some x) = omega arith

  pub depends_few : (o : Option BlockId) → length (depends_cells t o) ≤ 1
  depends_few None = omega arith
  depends_few (Some b) = one_at_most (Depends b) (slice_get t.blocks b.0)

  pub visible_few : (o : Option BlockId) → length (visible_cells t o) ≤ 1
  visible_few None = omega arith
  visible_few (Some b) = one_at_most (Visible b) (slice_get t.blocks b.0)

  -- ---- whole rows
  -- nodes, and then at most one condition
  pub row_of_condition : (c : Cell) (ns : List Node) (cs : List Cell) (a b d r : List ℕ) → read_cells t c ≡ nodes_in ns ++ cs → All (λ n. IsNodeOf t n) ns → length cs ≤ 1
      → a ≡ [] → Adds (length t.symbols) a b ns → HaveSame d b → r ≡ d ++ map (cell_number t) cs → IsRowOf t c r
  row_of_condition c ns cs a b d r reads are few e f h last = record {
    has = λ k.
        (cells_then [] d r (nodes_in ns) cs (cells_of_nodes [] d ns (record { has = λ j. nodes j })) (cells_appended d r cs last)).has k
        ∙ ap (λ xs. has_cell t xs k) (sym reads);
    chain = λ is i inside. lower i inside (cases_lt i (length d));
  }
    where
      nodes : (j : ℕ) → has_number d j ≡ has_node (length t.symbols) ns j
      nodes j = h.has j ∙ f.has j ∙ ap (λ r. has_number r j || has_node (length t.symbols) ns j) e

      below : (j : ℕ) → Contains d j → j < node_count t
      below j there =
          let n = node_found (length t.symbols) ns j (sym (nodes j) ∙ number_found d j there) in
          let small = number_below t n.0 (All-contains (λ n. IsNodeOf t n) ns n.0 are n.1) in
          omega (arith, small, n.2)

      count : length r ≡ length d + length cs
      count = ap length last ∙ length-append d (map (cell_number t) cs) ∙ ap (λ n. length d + n) (length-map cs (cell_number t))

      lower : (i : ℕ) → i + 1 < length r → (i < length d) ⊎ (length d ≤ i) → get_or r i 0 < node_count t
      lower i inside (inl l) =
          let same : get_or r i 0 ≡ get_or d i 0 = ap (λ xs. get_or xs i 0) last ∙ get_or_append_left d (map (cell_number t) cs) 0 i l in
          let small = below (get_or d i 0) (Contains-get_or d i 0 l) in
          omega (arith, same, small)
      lower i inside (inr g) = absurd (omega (arith, inside, count, few, g))

  -- ---- tables
  -- the row of one more cell
  pub rows_more : (n : ℕ) (rows new : List (List ℕ)) (row items : List ℕ) (c : Cell) → AreRowsTo t n rows → new ≡ rows ++ row ∷ [] → row ≡ items → c ≡ cell_at t n → IsRowOf t c items → AreRowsTo t (n + 1) new
  rows_more n rows new row items c h e r is made = record {
    whole = ap length e ∙ length_push rows row ∙ ap (λ k. k + 1) h.whole;
    each = λ k inside. each k inside (cases_lt k n);
  }
    where
      each : (k : ℕ) → k < n + 1 → (k < n) ⊎ (n ≤ k) → IsRowOf t (cell_at t k) (get_or new k [])
      each k inside (inl l) =
          let same : get_or new k [] ≡ get_or rows k [] = ap (λ xs. get_or xs k []) e ∙ get_or_append_left rows (row ∷ []) [] k (omega (arith, l, h.whole)) in
          subst (λ (xs : List ℕ). IsRowOf t (cell_at t k) xs) (sym same) (h.each k l)
      each k inside (inr g) =
          let last : k ≡ n = omega (arith, inside, g) in
          let same : get_or new k [] ≡ items = ap (λ xs. get_or xs k []) e ∙ get_or_push rows row [] k (omega (arith, last, h.whole)) ∙ r in
          subst (λ (xs : List ℕ). IsRowOf t (cell_at t k) xs) (sym same) (subst (λ (x : Cell). IsRowOf t x items) (is ∙ ap (cell_at t) (sym last)) made)
