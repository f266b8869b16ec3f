-- The walk that drops what is computed from nodes that change.
use Rattle.std.proofs.Common.{◌≡◌, ◌⊎◌, inl, inr, ℕ, suc, ◌<◌, true, false, true≢false, List, [], ◌∷◌, ◌++◌, Option, Some, None, length, slice_set, refl, sym, ap, ◌∙◌, subst, ⊎_elim, get_or-set_other, length-append, arith}
use Rattle.std.specs.Prelude.{is_some}
use Rattle.std.specs.List.{Contains}
use Rattle.std.proofs.lemmas.Bool.{cases_eq}
use Rattle.std.proofs.lemmas.List.{length-set}
use Rattle.std.proofs.lemmas.List.Elements.{Contains-push, Contains-push_cases, Contains-append_left}
use Rattle.kc_graph.specs.Graph.{row}
use Rattle.kc_outline.specs.TreeValue.{TreeValue}
use Rattle.kc_tree.specs.declared.cell.Cell.{Cell}
use Rattle.kc_tree.specs.declared.cell.Cell.TheVariants.{Node as OfNode}
use Rattle.kc_tree.specs.declared.node.Node.{Node}
use Rattle.kc_tree.specs.CellLaws.{CellLaws, IsReaderTable, Reads, itself, through}
use Rattle.kc_tree.specs.Cells.{IsCellOf, cell_at, cell_count, cell_number, read_cells}
use Rattle.kc_tree.specs.Nodes.{IsNodeOf, number_of}
use Rattle.kc_tree.specs.Reached.{Leads, here as there, step as further}
use Rattle.kc_tree.specs.Uses.{Uses}
use Rattle.kc_tree.proofs.NodeNumbers.{Contains-from_map, Contains-map}
use Rattle.kc_value.specs.declared.value.Value.{Value}
use Rattle.kc_value.specs.Assignment.{value_at}
use Rattle.kc_value.specs.Dirty.{is_changed}
use Rattle.kc_value.specs.DropWalk.{DropsAll, IsChangedNumber, IsDropped, IsDropping, IsFrom, ReadsFrom, here, step, value_of}
use Rattle.kc_value.specs.Kept.{IsClosed, IsHeld, cell_value_at, value_count}
use Rattle.kc_value.specs.UserValues.{UserValues}
use Rattle.kc_value.proofs.FillSteps.{cell_of, node_or_condition, some_of}
use Rattle.kc_value.proofs.KeptCounts.{value_count-fewer}
use Rattle.kc_value.proofs.SlotLemmas.{none_set}

-- ---- numbers with a value or none
module _ (kept : List (Option Value)) (k : ℕ) where
  pub some_or_none : (is_some (value_of kept k) ≡ true) ⊎ (value_of kept k ≡ None)
  some_or_none = go (value_of kept k) refl
    where
      go : (o : Option Value) → value_of kept k ≡ o → (is_some (value_of kept k) ≡ true) ⊎ (value_of kept k ≡ None)
      go None e = inr e
      go (Some v) e = inl (ap is_some e)

  pub none_not_some : value_of kept k ≡ None → is_some (value_of kept k) ≡ true → ⊥
  none_not_some e h = true≢false (sym h ∙ ap is_some e)

  pub none_has : is_some (value_of kept k) ≡ false → value_of kept k ≡ None
  none_has h = ⊎_elim (λ some. absurd (true≢false (sym some ∙ h))) (λ none. none) some_or_none

  pub fewer_kept : is_some (value_of kept k) ≡ true → suc (value_count (slice_set kept k None)) ≡ value_count kept
  fewer_kept h = let some = some_of (value_of kept k) h in value_count-fewer kept k some.0 some.1

-- what has the same value, or none now, had one where it has one now
had_value : (old new : List (Option Value)) (k : ℕ) (P : Type 0) → (value_of new k ≡ value_of old k) ⊎ ((value_of new k ≡ None) × P) → is_some (value_of new k) ≡ true → is_some (value_of old k) ≡ true
had_value old new k P each h = ⊎_elim (λ same. ap is_some (sym same) ∙ h) (λ none. absurd (none_not_some new k none.0 h)) each

-- ---- one number
module _ (old : List (Option Value)) (list : List ℕ) (k : ℕ) where
  abbrev without : List (Option Value)
  without = slice_set old k None

  none_there : (j : ℕ) → j ≡ k → value_of without j ≡ None
  none_there j e = ap (value_of without) e ∙ none_set old k

  that_or_other : (j : ℕ) → (j ≡ k) ⊎ (value_of without j ≡ value_of old j)
  that_or_other j = ⊎_elim (λ e. inl e) (λ differs. inr (get_or-set_other old k j None None differs)) (cases_eq j k)

  -- that has a value
  pub one_dropped : is_some (value_of old k) ≡ true → DropsAll (λ j. j ≡ k) old without list (list ++ k ∷ [])
  one_dropped h = record {
    whole = length-set old k None;
    each = λ j. ⊎_elim (λ that. inr (none_there j that, that)) (λ same. inl same) (that_or_other j);
    gone = none_there;
    stay = λ j c. Contains-append_left list (k ∷ []) j c;
    listed = λ j c. ⊎_elim (λ before. inl before) (λ e. inr (sym e)) (Contains-push_cases list k j c);
    found = λ j had. ⊎_elim (λ that. inr (subst (Contains (list ++ k ∷ [])) (sym that) (Contains-push list k))) (λ same. inl (ap is_some same ∙ had)) (that_or_other j);
    room = omega (arith, fewer_kept old k h, length-append list (k ∷ []));
  }

-- ---- numbers without a value
pub nothing_dropped : (dropped : ℕ → Type 0) (old : List (Option Value)) (list : List ℕ) → ((k : ℕ) → dropped k → value_of old k ≡ None) → DropsAll dropped old old list list
nothing_dropped dropped old list none = record {
  whole = refl;
  each = λ k. inl refl;
  gone = none;
  stay = λ k c. c;
  listed = λ k c. inl c;
  found = λ k had. inl had;
  room = omega arith;
}

-- ---- some numbers and then others
module _ (p q r : ℕ → Type 0) (old mid new : List (Option Value)) (first second third : List ℕ) where
  pub drops_then : ((k : ℕ) → p k → r k) → ((k : ℕ) → q k → r k) → ((k : ℕ) → r k → p k ⊎ q k) → DropsAll p old mid first second → DropsAll q mid new second third → DropsAll r old new first third
  drops_then left right either a b = record {
    whole = b.whole ∙ a.whole;
    each = λ k. ⊎_elim
        (λ same. ⊎_elim (λ before. inl (same ∙ before)) (λ none. inr (same ∙ none.0, left k none.1)) (a.each k))
        (λ none. inr (none.0, right k none.1))
        (b.each k);
    gone = λ k c. ⊎_elim
        (λ early. ⊎_elim (λ same. same ∙ a.gone k early) (λ none. none.0) (b.each k))
        (λ late. b.gone k late)
        (either k c);
    stay = λ k c. b.stay k (a.stay k c);
    listed = λ k c. ⊎_elim
        (λ before. ⊎_elim (λ f. inl f) (λ m. inr (left k m)) (a.listed k before))
        (λ m. inr (right k m))
        (b.listed k c);
    found = λ k had. ⊎_elim (λ still. b.found k still) (λ c. inr (b.stay k c)) (a.found k had);
    room = omega (arith, a.room, b.room);
  }

-- the same numbers, said in another way
pub drops_same : (p q : ℕ → Type 0) (old new : List (Option Value)) (before after : List ℕ) → ((k : ℕ) → p k → q k) → ((k : ℕ) → q k → p k) → DropsAll p old new before after → DropsAll q old new before after
drops_same p q old new before after to from a = record {
  whole = a.whole;
  each = λ k. ⊎_elim (λ same. inl same) (λ none. inr (none.0, to k none.1)) (a.each k);
  gone = λ k c. a.gone k (from k c);
  stay = a.stay;
  listed = λ k c. ⊎_elim (λ b. inl b) (λ d. inr (to k d)) (a.listed k c);
  found = a.found;
  room = a.room;
}

-- ---- cells that read a node
module _ (t : TreeValue) (laws : CellLaws t) where
  -- a cell that reads a node through others is that node, or reads one from which a walk leads to it
  reads_from : (n : Node) (c : Cell) → IsCellOf t c → ReadsFrom t n c → (c ≡ OfNode n) ⊎ ((m : Node) × Reads t c m × Leads t m n)
  reads_from n c inside here = inl refl
  reads_from n c inside (step {e = e} listed rest) =
      let at : IsCellOf t e = laws.within c e inside listed in
      ⊎_elim
      (λ same. inr (n, itself (subst (Contains (read_cells t c)) same listed), there))
      (λ found.
      let m : Node = found.0 in
      ⊎_elim
      (λ node.
      let j : Node = node.0 in
      let uses : Uses t j m = (laws.uses j m (subst (IsCellOf t) node.1 at)).1 (subst (λ x. Reads t x m) node.1 found.1) in
      inr (j, itself (subst (Contains (read_cells t c)) node.1 listed), further uses found.2))
      (λ is. inr (m, through is listed found.1, found.2))
      (node_or_condition e))
      (reads_from n e at rest)

  node_of : (a b : Node) → OfNode a ≡ OfNode b → a ≡ b
  node_of a b e = ap (λ x. node_in x b) e
    where
      node_in : Cell → Node → Node
      node_in (OfNode x) d = x
      node_in c d = d

  -- so a walk leads from a node to the one that it reads
  pub from_leads : (n m : Node) → IsNodeOf t m → ReadsFrom t n (OfNode m) → Leads t m n
  from_leads n m inside reads =
      ⊎_elim
      (λ same. subst (Leads t m) (node_of m n same) there)
      (λ found. further ((laws.uses m found.0 inside).1 found.1) found.2)
      (reads_from n (OfNode m) inside reads)

-- ---- the walk
module _ (t : TreeValue) (laws : CellLaws t) (u w : UserValues) (old : List (Option Value)) (was : IsClosed t old) where
  changed_from : (k : ℕ) → IsChangedNumber t u w k → (k < cell_count t) × IsFrom t u w (cell_at t k)
  changed_from k h =
      let n : Node = h.0 in
      (subst (λ j. j < cell_count t) (sym h.2.1) (laws.below (OfNode n) h.1), (n, h.1, h.2.0, subst (ReadsFrom t n) (cell_of t laws k (OfNode n) h.1 (sym h.2.1)) here))

  -- it begins with the nodes that change
  pub walk_begun : (new : List (Option Value)) (list : List ℕ) → DropsAll (IsChangedNumber t u w) old new [] list → IsDropping t u w old new list
  walk_begun new list drops = record {
    whole = drops.whole;
    started = λ n at changes. drops.gone (number_of t n) (n, at, (changes, refl));
    each = λ c at. ⊎_elim (λ same. inl same) (λ none. inr (none.0, subst (IsFrom t u w) (laws.same c at) (changed_from (cell_number t c) none.1).1)) (drops.each (cell_number t c));
    listed = λ k c. ⊎_elim (λ none. absurd (omega (arith, none.1))) (λ start. changed_from k start) (drops.listed k c);
    closed = λ c e at h listed.
        drops.found (cell_number t e) (was.closed c e at (had_value old new (cell_number t c) (IsChangedNumber t u w (cell_number t c)) (drops.each (cell_number t c)) h) listed);
  }

  -- the cells that read one that was listed are dropped
  pub walk_next : (g : List (List ℕ)) → IsReaderTable t g → (now new : List (Option Value)) (front list : List ℕ) (k : ℕ)
      → IsDropping t u w old now (front ++ k ∷ []) → DropsAll (Contains (row g k)) now new front list → IsDropping t u w old new list
  walk_next g table now new front list k walk more = record {
    whole = more.whole ∙ walk.whole;
    started = λ n at changes. ⊎_elim (λ same. same ∙ walk.started n at changes) (λ none. none.0) (more.each (number_of t n));
    each = λ c at. ⊎_elim
        (λ same. ⊎_elim (λ before. inl (same ∙ before)) (λ none. inr (same ∙ none.0, none.1)) (walk.each c at))
        (λ none. inr (none.0, subst (IsFrom t u w) (laws.same c at) (from_reader (cell_number t c) none.1)))
        (more.each (cell_number t c));
    listed = λ j c. ⊎_elim
        (λ before. walk.listed j (Contains-append_left front (k ∷ []) j before))
        (λ reader. (table.within k j reader, from_reader j reader))
        (more.listed j c);
    closed = λ c e at h listed. ⊎_elim
        (λ still. more.found (cell_number t e) still)
        (λ d. ⊎_elim
        (λ before. inr (more.stay (cell_number t e) before))
        (λ same. absurd (none_not_some new (cell_number t c) (more.gone (cell_number t c) (reader_listed c e at (laws.within c e at listed) same listed)) h))
        (Contains-push_cases front k (cell_number t e) d))
        (walk.closed c e at (had_value now new (cell_number t c) (Contains (row g k) (cell_number t c)) (more.each (cell_number t c)) h) listed);
  }
    where
      last : (k < cell_count t) × IsFrom t u w (cell_at t k)
      last = walk.listed k (Contains-push front k)

      same_row : row g (cell_number t (cell_at t k)) ≡ row g k
      same_row = ap (row g) (laws.at k last.0)

      -- the cell of a number of the row reads the one that was listed
      from_reader : (j : ℕ) → Contains (row g k) j → IsFrom t u w (cell_at t j)
      from_reader j c =
          let below : j < cell_count t = table.within k j c in
          let reads : Contains (read_cells t (cell_at t j)) (cell_at t k) =
          (table.exact (cell_at t k) (cell_at t j) (laws.inside k last.0) (laws.inside j below)).0
          (Contains-map (cell_at t) (row g (cell_number t (cell_at t k))) j (subst (λ ks. Contains ks j) (sym same_row) c)) in
          (last.1.0, last.1.1, last.1.2, step reads last.1.3)

      -- and each that does has its number in the row
      reader_listed : (c e : Cell) → IsCellOf t c → IsCellOf t e → k ≡ cell_number t e → Contains (read_cells t c) e → Contains (row g k) (cell_number t c)
      reader_listed c e at inside same reads =
          let is : e ≡ cell_at t k = cell_of t laws k e inside (sym same) in
          let found = Contains-from_map (cell_at t) (row g (cell_number t (cell_at t k))) c
          ((table.exact (cell_at t k) c (laws.inside k last.0) at).1 (subst (Contains (read_cells t c)) is reads)) in
          let place : Contains (row g k) found.0 = subst (λ ks. Contains ks found.0) same_row found.1 in
          let number : cell_number t c ≡ found.0 = ap (cell_number t) (sym found.2) ∙ laws.at found.0 (table.within k found.0 place) in
          subst (Contains (row g k)) (sym number) place

  module _ (new : List (Option Value)) (list : List ℕ) (empty : length list ≡ 0) (walk : IsDropping t u w old new list) where
    stays_closed : (c e : Cell) → IsCellOf t c → IsHeld t new c → Contains (read_cells t c) e → IsHeld t new e
    stays_closed c e at h listed = ⊎_elim (λ held. held) (λ d. absurd (omega (arith, empty, d.1))) (walk.closed c e at h listed)

    -- a cell that reads a node without a value has none
    none_back : (c : Cell) (m : Node) → IsCellOf t c → Reads t c m → value_at t new m ≡ None → cell_value_at t new c ≡ None
    none_back c m at (itself listed) none =
        ⊎_elim (λ h. absurd (none_not_some new (number_of t m) none (stays_closed c (OfNode m) at h listed))) (λ e. e) (some_or_none new (cell_number t c))
    none_back c m at (through {e = e} is listed rest) none =
        ⊎_elim
        (λ h. absurd (none_not_some new (cell_number t e) (none_back e m (laws.within c e at listed) rest none) (stays_closed c e at h listed)))
        (λ e. e) (some_or_none new (cell_number t c))

    -- through others too
    none_along : (accepted : (n m : Node) → IsNodeOf t n → Uses t n m → IsNodeOf t m) (n d : Node) → IsNodeOf t d → is_changed t u w d ≡ true → IsNodeOf t n → Leads t n d → value_at t new n ≡ None
    none_along accepted n d inside changes at there = walk.started n at changes
    none_along accepted n d inside changes at (further {n = m} uses leads) =
        none_back (OfNode n) m at ((laws.uses n m at).0 uses) (none_along accepted m d inside changes (accepted n m at uses) leads)

    pub walk_ended : ((n m : Node) → IsNodeOf t n → Uses t n m → IsNodeOf t m) → IsDropped t u w old new
    walk_ended within = record {
      closed = record { whole = walk.whole ∙ was.whole; closed = stays_closed };
      dropped = λ n at dirty. none_along within n dirty.0 dirty.1 dirty.2 at dirty.3;
      each = λ n at. ⊎_elim (λ same. inl same) (λ none. inr (none.0, (none.1.0, none.1.1, none.1.2, from_leads t laws none.1.0 n at none.1.3))) (walk.each (OfNode n) at);
      cells = λ c at. ⊎_elim (λ same. inl same) (λ none. inr none.0) (walk.each c at);
    }
