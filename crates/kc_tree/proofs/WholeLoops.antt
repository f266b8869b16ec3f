-- A loop of a table of cells, without its conditions, is one of the whole rows of its nodes.
use Rattle.std.proofs.Common.{◌≡◌, ℕ, zero, suc, ◌+◌, ◌-◌, ◌<◌, ◌≤◌, List, length, get_or, filter, inl, inr, sym, ap, subst, ◌∙◌, arith}
use Rattle.std.proofs.lemmas.Bool.{cases_lt, le-ltb, lt-ltb, ltb-true}
use Rattle.kc_graph.specs.Graph.{Uses, IsLoop}
use Rattle.kc_tree.specs.CellRows.{AreChains}
use Rattle.kc_tree.specs.WholeRows.{Holds, is_node, whole_rows}
use Rattle.kc_tree.specs.WholeRows.Holds.{itself, through}
use Rattle.kc_tree.proofs.FilterPlaces.{kept_at, kept-within, place, place-kept, place-left_out, place_end, stood_at}
use Rattle.kc_tree.proofs.WholeRowLaws.{use_from_holds}

module _ (n : ℕ) (g : List (List ℕ)) (nodes : List ℕ) (loop : IsLoop g nodes) (chains : AreChains n g) where
  -- the number at a place of the loop
  abbrev number : ℕ → ℕ
  number i = get_or nodes i 0

  -- how many nodes stand before a place of the loop
  abbrev before : ℕ → ℕ
  before i = place (is_node n) nodes i

  -- the loop without its conditions
  abbrev left : List ℕ
  left = filter (is_node n) nodes

  -- the place after that of a condition
  after_condition : (i : ℕ) → i < length nodes → n ≤ number i → before (i + 1) ≡ before i
  after_condition i inside above = place-left_out (is_node n) nodes i 0 inside (le-ltb (number i) n above)

  -- a node is left, at its place
  left_at : (i : ℕ) → i < length nodes → number i < n → get_or left (before i) 0 ≡ number i
  left_at i inside below = kept_at (is_node n) nodes i 0 inside (lt-ltb (number i) n below)

  left-within : (i : ℕ) → i < length nodes → number i < n → before i < length left
  left-within i inside below = kept-within (is_node n) nodes i 0 inside (lt-ltb (number i) n below)

  -- a cell of the loop holds the node that is left next after it
  held_next : (rest i : ℕ) → i + rest ≡ length nodes → i < length nodes → before (i + 1) < length left → Holds n g (number i) (get_or left (before (i + 1)) 0)
  held_next zero i all inside more = absurd (omega (arith, all, inside))
  held_next (suc rest) i all inside more = elim (cases_lt (i + 1) (length nodes)) [
    | inr end ↦ let whole = place_end (is_node n) nodes (i + 1) end in absurd (omega (arith, whole, more))
    | inl h ↦ elim (cases_lt (number (i + 1)) n) [
      | inl node ↦ subst (λ q. Holds n g (number i) q) (sym (left_at (i + 1) h node)) (itself node (loop.next i h))
      | inr above ↦
          let stays = after_condition (i + 1) h above in
          let later = held_next rest (i + 1) (omega (arith, all)) h (omega (arith, stays, more)) in
          through above (loop.next i h) (subst (λ k. Holds n g (number (i + 1)) (get_or left k 0)) stays later)
    ]
  ]

  -- ---- a node is left, since conditions read lower ones alone
  falls : (above : (i : ℕ) → i < length nodes → n ≤ number i) (i : ℕ) → i < length nodes → number i + i ≤ number 0
  falls above zero inside = omega arith
  falls above (suc i) inside =
      let here : i < length nodes = omega (arith, inside) in
      let more : i + 1 < length nodes = omega (arith, inside) in
      let down = chains.falls (number i) (number (i + 1)) (above i here) (loop.next i more) in
      let rest = falls above i here in
      let next : i + 1 ≡ suc i = omega arith in
      let lower = subst (λ k. get_or nodes k 0 < number i) next down in
      omega (arith, lower, rest)

  some_left : 0 < length left
  some_left = elim (cases_lt 0 (length left)) [
    | inl some ↦ some
    | inr none ↦
        let above : (i : ℕ) → i < length nodes → n ≤ number i = λ i inside. elim (cases_lt (number i) n) [
          | inl node ↦ let k = left-within i inside node in absurd (omega (arith, k, none))
          | inr h ↦ h
        ] in
        let some = loop.some in
        let last : length nodes - 1 < length nodes = omega (arith, some) in
        let closes = chains.falls (number (length nodes - 1)) (number 0) (above (length nodes - 1) last) loop.last in
        let lower = falls above (length nodes - 1) last in
        absurd (omega (arith, closes, lower))
  ]

  -- ---- from the end to the beginning
  held_first : (i : ℕ) → i + 1 ≡ length nodes → Holds n g (number i) (get_or left 0 0)
  held_first i end =
      let is : length nodes - 1 ≡ i = omega (arith, end) in
      let closes : Uses g (number i) (number 0) = subst (λ j. Uses g (number j) (number 0)) is loop.last in
      let some = loop.some in
      elim (cases_lt (number 0) n) [
        | inl node ↦ subst (λ q. Holds n g (number i) q) (sym (left_at 0 some node)) (itself node closes)
        | inr above ↦
            let stays = after_condition 0 some above in
            let more = some_left in
            let later = held_next (length nodes) 0 (omega arith) some (omega (arith, stays, more)) in
            through above closes (subst (λ k. Holds n g (number 0) (get_or left k 0)) stays later)
      ]

  -- a cell after which no node is left holds the first one
  held_last : (rest i : ℕ) → i + rest ≡ length nodes → i < length nodes → before (i + 1) ≡ length left → Holds n g (number i) (get_or left 0 0)
  held_last zero i all inside none = absurd (omega (arith, all, inside))
  held_last (suc rest) i all inside none = elim (cases_lt (i + 1) (length nodes)) [
    | inr end ↦ held_first i (omega (arith, end, inside))
    | inl h ↦ elim (cases_lt (number (i + 1)) n) [
      | inl node ↦ let k = left-within (i + 1) h node in absurd (omega (arith, k, none))
      | inr above ↦ through above (loop.next i h) (held_last rest (i + 1) (omega (arith, all)) h (after_condition (i + 1) h above ∙ none))
    ]
  ]

  pub IsLoop-whole_rows : IsLoop (whole_rows n g) left
  IsLoop-whole_rows = record {
    some = some_left;
    next = λ i more.
        let s = stood_at (is_node n) nodes i 0 (omega (arith, more)) in
        let below = ltb-true (number s.at) n s.passes in
        let grows : before (s.at + 1) ≡ i + 1 = place-kept (is_node n) nodes s.at 0 s.inside s.passes ∙ ap (λ k. k + 1) s.placed in
        let inside = s.inside in
        let held = held_next (length nodes - s.at) s.at (omega (arith, inside)) inside (omega (arith, grows, more)) in
        subst (λ p. Uses (whole_rows n g) p (get_or left (i + 1) 0)) s.same
        (use_from_holds n g chains (number s.at) (get_or left (i + 1) 0) below (subst (λ k. Holds n g (number s.at) (get_or left k 0)) grows held));
    last =
        let some = some_left in
        let s = stood_at (is_node n) nodes (length left - 1) 0 (omega (arith, some)) in
        let below = ltb-true (number s.at) n s.passes in
        let placed = s.placed in
        let grows = place-kept (is_node n) nodes s.at 0 s.inside s.passes in
        let inside = s.inside in
        let held = held_last (length nodes - s.at) s.at (omega (arith, inside)) inside (omega (arith, grows, placed, some)) in
        subst (λ p. Uses (whole_rows n g) p (get_or left 0 0)) s.same (use_from_holds n g chains (number s.at) (get_or left 0 0) below held);
  }
