-- What whole rows hold: the nodes that numbers lead to, through conditions.
use Rattle.std.proofs.Common.{◌≡◌, ℕ, zero, suc, ◌<◌, ◌≤◌, Bool, true, cond, List, [], ◌∷◌, ◌++◌, length, take, filter, inl, inr, ◌⊎◌, sym, ap, subst, ◌∙◌, arith, get_or-take, length-take-le}
use Rattle.std.specs.List.{Contains, flat_map}
use Rattle.std.proofs.Math.ListN.{get_or-map}
use Rattle.std.proofs.lemmas.Bool.{cases_lt, cond-false, cond-true, le-ltb, lt-ltb, ltb-true}
use Rattle.std.proofs.lemmas.List.{append-nil, get_or_past, length-map}
use Rattle.kc_graph.specs.Graph.{Uses, row}
use Rattle.kc_tree.specs.CellRows.{AreChains}
use Rattle.kc_tree.specs.WholeRows.{Holds, is_node, trail, trails, whole_row, whole_rows}
use Rattle.kc_tree.specs.WholeRows.Holds.{itself, through}
use Rattle.kc_tree.proofs.FilterPlaces.{Contains-filter, stood_at}
use Rattle.kc_tree.proofs.FlatLaws.{Contains-flat_map, contains_first, contains_later, contains_nothing, first_or_later, flat_equal_on, flat_map_cases}

-- an element of a filtered list is one of the list, and passes
pub from_filter : {X : Type 0} (p : X → Bool) (xs : List X) (x : X) → Contains (filter p xs) x → Contains xs x × (p x ≡ true)
from_filter p xs x c =
    let s = stood_at p xs c.0 x c.1 in
    let same = s.same ∙ c.2 in
    ((s.at, s.inside, same), sym (ap p same) ∙ s.passes)

module _ (n : ℕ) (g : List (List ℕ)) where
  -- ---- one step
  pub trail_node : (fuel k : ℕ) → k < n → trail (suc fuel) n g k ≡ k ∷ []
  trail_node fuel k h = ap (λ b. k ∷ cond b [] (flat_map (trail fuel n g) (row g k))) (lt-ltb k n h)

  pub trail_condition : (fuel k : ℕ) → n ≤ k → trail (suc fuel) n g k ≡ k ∷ flat_map (trail fuel n g) (row g k)
  trail_condition fuel k h = ap (λ b. k ∷ cond b [] (flat_map (trail fuel n g) (row g k))) (le-ltb k n h)

  module _ (chains : AreChains n g) where
    -- with more steps than are needed the trail is the same
    stable : (f h k : ℕ) → k < f → k < h → trail f n g k ≡ trail h n g k
    stable zero h k a b = absurd (omega (arith, a))
    stable (suc f) zero k a b = absurd (omega (arith, b))
    stable (suc f) (suc h) k a b = elim (cases_lt k n) [
      | inl l ↦ trail_node f k l ∙ sym (trail_node h k l)
      | inr i ↦
          trail_condition f k i
          ∙ ap (λ ks. k ∷ ks) (flat_equal_on (trail f n g) (trail h n g) (row g k) (λ j c. let down = chains.falls k j i c in stable f h j (omega (arith, down, a)) (omega (arith, down, b))))
          ∙ sym (trail_condition h k i)
    ]

    node_trail : (k : ℕ) → k < length g → k < n → trail (length g) n g k ≡ k ∷ []
    node_trail k h l = stable (length g) (suc (length g)) k h (omega (arith, h)) ∙ trail_node (length g) k l

    condition_trail : (k : ℕ) → k < length g → n ≤ k → trail (length g) n g k ≡ k ∷ trails n g (row g k)
    condition_trail k h l = stable (length g) (suc (length g)) k h (omega (arith, h)) ∙ trail_condition (length g) k l

    -- ---- whole rows
    pub whole_node : (k : ℕ) (ks : List ℕ) → k < length g → k < n → whole_row n g (k ∷ ks) ≡ k ∷ whole_row n g ks
    whole_node k ks h l =
        ap (λ js. filter (is_node n) (js ++ trails n g ks)) (node_trail k h l)
        ∙ cond-true (is_node n k) (k ∷ whole_row n g ks) (whole_row n g ks) (lt-ltb k n l)

    pub whole_condition : (k : ℕ) → k < length g → n ≤ k → whole_row n g (k ∷ []) ≡ whole_row n g (row g k)
    whole_condition k h l =
        ap (λ js. filter (is_node n) (js ++ [])) (condition_trail k h l)
        ∙ ap (filter (is_node n)) (append-nil (k ∷ trails n g (row g k)))
        ∙ cond-false (is_node n k) (k ∷ whole_row n g (row g k)) (whole_row n g (row g k)) (le-ltb k n l)

    pub fewer_after_condition : (k : ℕ) → k < length g → n ≤ k → length (trails n g (k ∷ [])) ≡ suc (length (trails n g (row g k)))
    fewer_after_condition k h l = ap (λ js. length (js ++ [])) (condition_trail k h l) ∙ ap length (append-nil (k ∷ trails n g (row g k)))

    -- ---- what a whole row holds
    pub held_within : {p q : ℕ} → Holds n g p q → q < n
    held_within (itself below u) = below
    held_within (through above u rest) = held_within rest

    holds_trail : (p q : ℕ) → Holds n g p q → (fuel : ℕ) → ((j : ℕ) → Uses g p j → j < fuel) → Contains (flat_map (trail fuel n g) (row g p)) q
    holds_trail p q (itself below u) zero small = let none = small q u in absurd (omega (arith, none))
    holds_trail p q (itself below u) (suc fuel) small = Contains-flat_map (trail (suc fuel) n g) (row g p) q q u (contains_first q _)
    holds_trail p q (through {s = s} above u rest) zero small = let none = small s u in absurd (omega (arith, none))
    holds_trail p q (through {s = s} above u rest) (suc fuel) small =
        let later = holds_trail s q rest fuel (λ j v. let down = chains.falls s j above v in let here = small s u in omega (arith, down, here)) in
        Contains-flat_map (trail (suc fuel) n g) (row g p) s q u
        (subst (λ js. Contains js q) (sym (trail_condition fuel s above)) (contains_later s q _ later))

    trail_holds : (fuel k q : ℕ) → q < n → Contains (trail fuel n g k) q → (k ≡ q) ⊎ ((n ≤ k) × Holds n g k q)
    trail_holds zero k q below c = absurd (contains_nothing q c)
    trail_holds (suc fuel) k q below c = elim (cases_lt k n) [
      | inl l ↦ elim (first_or_later k q [] (subst (λ js. Contains js q) (trail_node fuel k l) c)) [
        | inl e ↦ inl e
        | inr none ↦ absurd (contains_nothing q none)
      ]
      | inr i ↦ elim (first_or_later k q _ (subst (λ js. Contains js q) (trail_condition fuel k i) c)) [
        | inl e ↦ inl e
        | inr later ↦
            let r = flat_map_cases (trail fuel n g) (row g k) q later in
            inr (
              i,
              elim (trail_holds fuel r.0 q below r.2) [
                | inl e ↦ itself below (subst (λ j. Uses g k j) e r.1)
                | inr h ↦ through h.0 r.1 h.1
              ],
            )
      ]
    ]

    -- ---- the rows of nodes
    pub length-whole_rows : n ≤ length g → length (whole_rows n g) ≡ n
    length-whole_rows few = length-map (take n g) (whole_row n g) ∙ length-take-le n g few

    pub row-whole_rows : (p : ℕ) → p < n → row (whole_rows n g) p ≡ whole_row n g (row g p)
    row-whole_rows p h = get_or-map (whole_row n g) (take n g) p [] ∙ ap (whole_row n g) (get_or-take n g p [] h)

    pub use_from_holds : (p q : ℕ) → p < n → Holds n g p q → Uses (whole_rows n g) p q
    use_from_holds p q h held =
        let there = holds_trail p q held (length g) (λ j u. chains.closed p j u) in
        subst (λ ks. Contains ks q) (sym (row-whole_rows p h)) (Contains-filter (is_node n) (trails n g (row g p)) q there (lt-ltb q n (held_within held)))

    pub holds_from_use : (p q : ℕ) → n ≤ length g → Uses (whole_rows n g) p q → (p < n) × Holds n g p q
    holds_from_use p q few u = elim (cases_lt p n) [
      | inl h ↦
          let c = from_filter (is_node n) (trails n g (row g p)) q (subst (λ ks. Contains ks q) (row-whole_rows p h) u) in
          let below = ltb-true q n c.1 in
          let r = flat_map_cases (trail (length g) n g) (row g p) q c.0 in (
            h,
            elim (trail_holds (length g) r.0 q below r.2) [
              | inl e ↦ itself below (subst (λ j. Uses g p j) e r.1)
              | inr k ↦ through k.0 r.1 k.1
            ],
          )
      | inr h ↦ absurd (contains_nothing q (subst (λ ks. Contains ks q) (get_or_past (whole_rows n g) p [] (omega (arith, length-whole_rows few, h))) u))
    ]
