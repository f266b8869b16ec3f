-- What the rows of the cells of a tree say: of the cells, and of the nodes through conditions.
use Rattle.std.proofs.Common.{◌≡◌, ℕ, ◌<◌, ◌≤◌, suc, Bool, true, false, true≢false, cond, eqb, List, [], ◌∷◌, length, get_or, map, take, inl, inr, refl, sym, ap, subst, ◌∙◌, arith}
use Rattle.std.specs.List.{Contains}
use Rattle.std.proofs.lemmas.Bool.{cases_lt, eqb-true, eq-eqb}
use Rattle.std.proofs.lemmas.List.{get_or_default, get_or_past, get_or-take, length-take-le}
use Rattle.std.proofs.lemmas.Option.{get_or_from_slice_get, slice_get_within}
use Rattle.kc_graph.specs.Graph as graph
use Rattle.kc_outline.specs.Nested.{AreNested}
use Rattle.kc_outline.specs.TreeValue.{TreeValue}
use Rattle.kc_tree.specs.declared.node.Node.{Node}
use Rattle.kc_tree.specs.declared.cell.Cell.{Cell}
use Rattle.kc_tree.specs.declared.cell.Cell.TheVariants.{Node as OfNode}
use Rattle.kc_tree.specs.Nodes.{node_at, node_count, number_of}
use Rattle.kc_tree.specs.NodeGraph.{IsGraphOf}
use Rattle.kc_tree.specs.Cells.{IsCellOf, cell_at, cell_count, cell_number, read_cells}
use Rattle.kc_tree.specs.CellLaws.{CellLaws, IsCellOrder, IsCellTable, IsReaderTable, Reads}
use Rattle.kc_tree.specs.CellLaws.Reads.{itself as read_itself, through as read_through}
use Rattle.kc_tree.specs.CellRows.{AreChains, AreRowsTo}
use Rattle.kc_tree.specs.WholeRows.{Holds, whole_rows}
use Rattle.kc_tree.specs.WholeRows.Holds.{itself as held_itself, through as held_through}
use Rattle.kc_tree.proofs.CellNumbers.{at_node, cell_below, cell_inside, cell_same, condition_above, condition_at, number_at}
use Rattle.kc_tree.proofs.CellReads.{factors_read, lower_condition, uses_reads}
use Rattle.kc_tree.proofs.CellsWithin.{read_within}
use Rattle.kc_tree.proofs.FlatLaws.{contains_nothing, first_or_later}
use Rattle.kc_tree.proofs.NodeGraphLaws.{user_is_node}
use Rattle.kc_tree.proofs.NodeNumbers.{Contains-from_map, Contains-map, below_at, number_below, number_of-node_at}
use Rattle.kc_tree.proofs.RowLaws.{any_contains, found, number_found, number_there}
use Rattle.kc_tree.proofs.WholeRowLaws.{holds_from_use, length-whole_rows, use_from_holds}

-- the place of a number in a list
abbrev place_of : List ℕ → ℕ → ℕ
place_of [] k = 0
place_of (x ∷ xs) k = cond (eqb x k) 0 (suc (place_of xs k))

place_there : (xs : List ℕ) (k : ℕ) → Contains xs k → (place_of xs k < length xs) × (get_or xs (place_of xs k) 0 ≡ k)
place_there [] k c = absurd (contains_nothing k c)
place_there (x ∷ xs) k c = at (place_there xs k) (eqb x k) refl
  where
    at : (Contains xs k → (place_of xs k < length xs) × (get_or xs (place_of xs k) 0 ≡ k)) → (b : Bool) → eqb x k ≡ b
        → (cond (eqb x k) 0 (suc (place_of xs k)) < length (x ∷ xs)) × (get_or (x ∷ xs) (cond (eqb x k) 0 (suc (place_of xs k))) 0 ≡ k)
    at rest true e = rw e (omega arith, eqb-true x k e)
    at rest false e = elim (first_or_later x k xs c) [
      | inl same ↦ absurd (true≢false (sym (eq-eqb x k same) ∙ e))
      | inr later ↦ let r = rest later in rw e (omega (arith, r.0), r.1)
    ]

module _ (t : TreeValue) (g : List (List ℕ)) (rows : AreRowsTo t (cell_count t) g) where
  -- ---- rows and what cells read
  pub row_within : (p q : ℕ) → graph.Uses g p q → p < cell_count t
  row_within p q u = elim (cases_lt p (length g)) [
    | inl l ↦ let whole = rows.whole in omega (arith, l, whole)
    | inr h ↦ absurd (contains_nothing q (subst (λ ks. Contains ks q) (get_or_past g p [] h) u))
  ]

  pub use_of : (c e : Cell) → IsCellOf t c → Contains (read_cells t c) e → graph.Uses g (cell_number t c) (cell_number t e)
  use_of c e inside listed =
      let k = cell_number t c in
      let has = (rows.each k (cell_below t c inside)).has (cell_number t e) in
      let there : Contains (read_cells t (cell_at t k)) e = subst (λ d. Contains (read_cells t d) e) (sym (cell_same t c inside)) listed in
      number_there (graph.row g k) (cell_number t e) (has ∙ any_contains (λ d. eqb (cell_number t d) (cell_number t e)) (read_cells t (cell_at t k)) e there (eq-eqb (cell_number t e) (cell_number t e) refl))

  -- the cell of a number in a row is read by that of the row
  pub read_of : (p q : ℕ) → graph.Uses g p q → Contains (read_cells t (cell_at t p)) (cell_at t q) × (q < cell_count t)
  read_of p q u =
      let below = row_within p q u in
      let has = (rows.each p below).has q in
      let r = found (λ d. eqb (cell_number t d) q) (read_cells t (cell_at t p)) (sym has ∙ number_found (graph.row g p) q u) in
      let inside = read_within t (cell_at t p) r.0 (cell_inside t p below) r.1 in
      let is : cell_number t r.0 ≡ q = eqb-true (cell_number t r.0) q r.2 in
      let small = cell_below t r.0 inside in
      (subst (λ d. Contains (read_cells t (cell_at t p)) d) (sym (cell_same t r.0 inside) ∙ ap (cell_at t) is) r.1, omega (arith, is, small))

  pub closed_rows : graph.IsClosed g
  closed_rows p q u = let r = read_of p q u in let whole = rows.whole in omega (arith, r.1, whole)

  pub few_nodes : node_count t ≤ length g
  few_nodes = let whole = rows.whole in omega (arith, whole)

  pub cell_table : IsCellTable t g
  cell_table = record {
    whole = rows.whole;
    within = λ k j c. (read_of k j c).1;
    exact = λ c e inside. (
      λ there.
          let r = Contains-from_map (cell_at t) (graph.row g (cell_number t c)) e there in
          let read = (read_of (cell_number t c) r.0 r.1).0 in
          subst (λ d. Contains (read_cells t c) d) r.2 (subst (λ d. Contains (read_cells t d) (cell_at t r.0)) (cell_same t c inside) read),
      λ listed.
          let there = Contains-map (cell_at t) (graph.row g (cell_number t c)) (cell_number t e) (use_of c e inside listed) in
          subst (λ d. Contains (map (cell_at t) (graph.row g (cell_number t c))) d) (cell_same t e (read_within t c e inside listed)) there,
    );
  }

  pub reader_table : (users : List (List ℕ)) → graph.IsConverse g users → IsReaderTable t users
  reader_table users converse = record {
    whole = converse.size ∙ rows.whole;
    within = λ k j c. row_within j k (converse.to_use k j c);
    exact = λ c e inside among. (
      λ there.
          let r = Contains-from_map (cell_at t) (graph.row users (cell_number t c)) e there in
          let read = (read_of r.0 (cell_number t c) (converse.to_use (cell_number t c) r.0 r.1)).0 in
          subst (λ d. Contains (read_cells t e) d) (cell_same t c inside) (subst (λ d. Contains (read_cells t d) (cell_at t (cell_number t c))) r.2 read),
      λ listed.
          let there = Contains-map (cell_at t) (graph.row users (cell_number t c)) (cell_number t e) (converse.from_use (cell_number t e) (cell_number t c) (use_of e c among listed)) in
          subst (λ d. Contains (map (cell_at t) (graph.row users (cell_number t c))) d) (cell_same t e among) there,
    );
  }

  -- ---- orders
  pub cell_order : (order : List ℕ) → graph.IsOrder g order → IsCellOrder t order
  cell_order order is_order = record {
    within = λ k c.
        let below = is_order.within c.0 c.1 in
        let is = get_or_default order c.0 0 k c.1 ∙ c.2 in
        let whole = rows.whole in
        omega (arith, below, is, whole);
    all = λ k h. is_order.complete k (let whole = rows.whole in omega (arith, h, whole));
    once = λ i j k e f.
        is_order.once i j (slice_get_within order i k e) (slice_get_within order j k f)
        (get_or_from_slice_get order i k 0 e ∙ sym (get_or_from_slice_get order j k 0 f));
    after_read = λ i k e there listed.
        let inside = slice_get_within order i k there in
        let is = get_or_from_slice_get order i k 0 there in
        let below : k < cell_count t = let small = is_order.within i inside in let whole = rows.whole in omega (arith, small, is, whole) in
        let used = use_of (cell_at t k) e (cell_inside t k below) listed in
        let first = is_order.after i (cell_number t e) inside (subst (λ p. graph.Uses g p (cell_number t e)) (number_at t k ∙ sym is) used) in
        let few : length (take i order) ≡ i = length-take-le i order (omega (arith, inside)) in
        (first.0, omega (arith, few, first.1), get_or-take i order first.0 (cell_number t e) first.1 ∙ get_or_default order first.0 (cell_number t e) 0 (omega (arith, first.1, inside)) ∙ first.2);
  }

  -- ---- conditions
  module _ (nested : AreNested t) where
    pub chains : AreChains (node_count t) g
    chains = record {
      closed = closed_rows;
      chain = λ k above i more.
          let below : k < cell_count t = elim (cases_lt k (length g)) [
            | inl l ↦ let whole = rows.whole in omega (arith, l, whole)
            | inr h ↦ absurd (let e = ap length (get_or_past g k [] h) in omega (arith, more, e))
          ] in
          (rows.each k below).chain (condition_at t k above) i more;
      falls = λ k j above u.
          let r = read_of k j u in
          elim (cases_lt j (node_count t)) [
            | inl node ↦ omega (arith, node, above)
            | inr condition ↦
                let lower = lower_condition t nested (cell_at t k) (condition_at t k above) (cell_at t j) (condition_at t j condition) r.0 in
                omega (arith, lower, number_at t k, number_at t j)
          ];
    }

    -- ---- what rows hold is what cells read, through conditions
    pub holds_reads : (p q : ℕ) → Holds (node_count t) g p q → Reads t (cell_at t p) (node_at t q)
    holds_reads p q (held_itself below u) = read_itself (subst (λ d. Contains (read_cells t (cell_at t p)) d) (at_node t q below) (read_of p q u).0)
    holds_reads p q (held_through {s = s} above u rest) = read_through (condition_at t s above) (read_of p s u).0 (holds_reads s q rest)

    pub reads_holds : (c : Cell) (m : Node) → IsCellOf t c → Reads t c m → Holds (node_count t) g (cell_number t c) (number_of t m)
    reads_holds c m inside (read_itself listed) = held_itself (number_below t m (read_within t c (OfNode m) inside listed)) (use_of c (OfNode m) inside listed)
    reads_holds c m inside (read_through {e = e} is listed rest) =
        held_through (condition_above t e is) (use_of c e inside listed) (reads_holds e m (read_within t c e inside listed) rest)

    pub graph_of_rows : IsGraphOf t (whole_rows (node_count t) g)
    graph_of_rows = record {
      whole = length-whole_rows (node_count t) g chains few_nodes;
      exact = λ p q. (
        λ u.
            let h = holds_from_use (node_count t) g chains p q few_nodes u in
            let node = at_node t p h.0 in
            (uses_reads t nested (node_at t p) (node_at t q) (subst (IsCellOf t) node (cell_inside t p (omega (arith, h.0))))).1
            (subst (λ d. Reads t d (node_at t q)) node (holds_reads p q h.1)),
        λ u.
            let user = user_is_node t (node_at t p) (node_at t q) u in
            let held = reads_holds (OfNode (node_at t p)) (node_at t q) user ((uses_reads t nested (node_at t p) (node_at t q) user).0 u) in
            use_from_holds (node_count t) g chains p q (below_at t p user)
            (subst (λ k. Holds (node_count t) g k q) (number_of-node_at t p) (subst (λ k. Holds (node_count t) g (number_of t (node_at t p)) k) (number_of-node_at t q) held)),
      );
    }

    -- ---- the laws of cells
    -- a cell is higher than another where it comes later in an order
    module _ (order : List ℕ) (is_order : graph.IsOrder g order) where
      abbrev height : Cell → ℕ
      height c = place_of order (cell_number t c)

      placed : (c : Cell) → IsCellOf t c → (height c < length order) × (get_or order (height c) 0 ≡ cell_number t c)
      placed c inside = place_there order (cell_number t c) (is_order.complete (cell_number t c) (let small = cell_below t c inside in let whole = rows.whole in omega (arith, small, whole)))

      earlier : (c e : Cell) → IsCellOf t c → Contains (read_cells t c) e → height e < height c
      earlier c e inside listed =
          let p = placed c inside in
          let q = placed e (read_within t c e inside listed) in
          let first = is_order.after (height c) (cell_number t e) p.0 (subst (λ k. graph.Uses g k (cell_number t e)) (sym p.1) (use_of c e inside listed)) in
          let same = is_order.once first.0 (height e) (omega (arith, first.1, p.0)) q.0 (first.2 ∙ sym q.1) in
          omega (arith, same, first.1)

      pub cell_laws : CellLaws t
      cell_laws = record {
        below = cell_below t;
        same = cell_same t;
        inside = cell_inside t;
        at = λ k below. number_at t k;
        within = λ c e inside listed. read_within t c e inside listed;
        height = height;
        lower = earlier;
        uses = λ n m inside. uses_reads t nested n m inside;
        factors = λ c m inside is. factors_read t nested c m inside is;
      }
