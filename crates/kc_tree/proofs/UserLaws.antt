-- The nodes that are computed from a node, as they are found by the rows of what reads each cell.
use Rattle.std.proofs.Common.{◌≡◌, ◌↔◌, ℕ, zero, suc, ◌+◌, ◌<◌, ◌≤◌, List, [], ◌∷◌, ◌++◌, length, map, filter, reverse, refl, sym, ap, subst, ◌∙◌, inl, inr, arith, append_assoc}
use Rattle.std.specs.List.{Contains}
use Rattle.std.proofs.lemmas.Bool.{cases_lt, cond-false, cond-true, le-ltb, lt-ltb, ltb-true}
use Rattle.std.proofs.lemmas.List.Elements.{filter-append}
use Rattle.std.proofs.lemmas.List.{length-append, map-append, reverse-append}
use Rattle.kc_graph.specs.Graph.{IsConverse, row}
use Rattle.kc_tree.specs.CellRows.{AreInside}
use Rattle.kc_tree.specs.Users.{AreLeveled, IsHigh, IsPath, steps_left, user_trails, users_left, whole_users}
use Rattle.kc_tree.specs.WholeRows.{Holds, is_node, trail}
use Rattle.kc_tree.specs.WholeRows.Holds.{itself, through}
use Rattle.kc_tree.proofs.FilterPlaces.{Contains-filter}
use Rattle.kc_tree.proofs.FlatLaws.{Contains-flat_map, contains_first, contains_later, contains_nothing, first_or_later, flat_equal_on, flat_map_cases}
use Rattle.kc_tree.proofs.WholeRowLaws.{from_filter, trail_condition, trail_node}

-- ---- what a number leads to
module _ (n : ℕ) (users : List (List ℕ)) (leveled : AreLeveled n users) where
  -- ---- one step
  -- with more steps than are needed the trail is the same
  stable : (f h k : ℕ) → 0 < f → 0 < h → (n ≤ k → 65 < leveled.level k + f) → (n ≤ k → 65 < leveled.level k + h) → trail f n users k ≡ trail h n users k
  stable zero h k a b enough also = absurd (omega (arith, a))
  stable (suc f) zero k a b enough also = absurd (omega (arith, b))
  stable (suc f) (suc h) k a b enough also = elim (cases_lt k n) [
    | inl l ↦ trail_node n users f k l ∙ sym (trail_node n users h k l)
    | inr i ↦
        let few = leveled.few k in
        let here = enough i in
        let there = also i in
        trail_condition n users f k i
        ∙ ap (λ ks. k ∷ ks) (flat_equal_on (trail f n users) (trail h n users) (row users k) (λ j c.
        stable f h j (omega (arith, few, here)) (omega (arith, few, there))
        (λ above. let up = leveled.rises k j i above c in omega (arith, up, here))
        (λ above. let up = leveled.rises k j i above c in omega (arith, up, there))))
        ∙ sym (trail_condition n users h k i)
  ]

  pub node_trail : (k : ℕ) → k < n → trail 66 n users k ≡ k ∷ []
  node_trail k l = trail_node n users 65 k l

  pub condition_trail : (k : ℕ) → n ≤ k → trail 66 n users k ≡ k ∷ user_trails n users (row users k)
  condition_trail k i =
      trail_condition n users 65 k i
      ∙ ap (λ ks. k ∷ ks) (flat_equal_on (trail 65 n users) (trail 66 n users) (row users k) (λ j c.
      stable 65 66 j (omega arith) (omega arith)
      (λ above. let up = leveled.rises k j i above c in omega (arith, up))
      (λ above. let up = leveled.rises k j i above c in omega (arith, up))))

  pub node_users : (k : ℕ) (ks : List ℕ) → k < n → whole_users n users (k ∷ ks) ≡ k ∷ whole_users n users ks
  node_users k ks l =
      ap (λ js. filter (is_node n) (js ++ user_trails n users ks)) (node_trail k l)
      ∙ cond-true (is_node n k) (k ∷ whole_users n users ks) (whole_users n users ks) (lt-ltb k n l)

  pub condition_users : (k : ℕ) (ks : List ℕ) → n ≤ k → whole_users n users (k ∷ ks) ≡ whole_users n users (row users k) ++ whole_users n users ks
  condition_users k ks i =
      let more = user_trails n users (row users k) ++ user_trails n users ks in
      ap (λ js. filter (is_node n) (js ++ user_trails n users ks)) (condition_trail k i)
      ∙ cond-false (is_node n k) (k ∷ filter (is_node n) more) (filter (is_node n) more) (le-ltb k n i)
      ∙ filter-append (is_node n) (user_trails n users (row users k)) (user_trails n users ks)

  -- ---- what rows hold
  module _ (g : List (List ℕ)) (converse : IsConverse g users) where
    -- what a number leads to holds all that the number holds
    lead_to : (fuel k q p : ℕ) → p < n → Contains (trail fuel n users k) p → Holds n g k q → Holds n g p q
    lead_to zero k q p below c held = absurd (contains_nothing p c)
    lead_to (suc fuel) k q p below c held = elim (cases_lt k n) [
      | inl l ↦ elim (first_or_later k p [] (subst (λ js. Contains js p) (trail_node n users fuel k l) c)) [
        | inl same ↦ subst (λ j. Holds n g j q) same held
        | inr none ↦ absurd (contains_nothing p none)
      ]
      | inr i ↦ elim (first_or_later k p _ (subst (λ js. Contains js p) (trail_condition n users fuel k i) c)) [
        | inl same ↦ absurd (omega (arith, same, i, below))
        | inr later ↦
            let r = flat_map_cases (trail fuel n users) (row users k) p later in
            lead_to fuel r.0 q p below r.2 (through i (converse.to_use k r.0 r.1) held)
      ]
    ]

    -- what a number leads to is found from all that the number holds
    found_from : (k q p : ℕ) → Holds n g k q → Contains (trail 66 n users k) p → Contains (user_trails n users (row users q)) p
    found_from k q p (itself below u) c = Contains-flat_map (trail 66 n users) (row users q) k p (converse.from_use k q u) c
    found_from k q p (through {s = s} i u rest) c =
        let there = Contains-flat_map (trail 66 n users) (row users s) k p (converse.from_use k s u) c in
        found_from s q p rest (subst (λ js. Contains js p) (sym (condition_trail s i)) (contains_later s p (user_trails n users (row users s)) there))

    pub users_held : (p q : ℕ) → q < n → Contains (whole_users n users (row users q)) p ↔ ((p < n) × Holds n g p q)
    users_held p q inside = (
      λ c.
          let f = from_filter (is_node n) (user_trails n users (row users q)) p c in
          let below = ltb-true p n f.1 in
          let r = flat_map_cases (trail 66 n users) (row users q) p f.0 in
          (below, lead_to 66 r.0 q p below r.2 (itself inside (converse.to_use q r.0 r.1))),
      λ h.
          let own = subst (λ js. Contains js p) (sym (node_trail p h.0)) (contains_first p []) in
          Contains-filter (is_node n) (user_trails n users (row users q)) p (found_from p q p h.1 own) (lt-ltb p n h.0),
    )

-- ---- one number after another
module _ (n : ℕ) (users : List (List ℕ)) where
  -- after the end of a row
  pub record IsAfterRow (first : List ℕ) (rows : List (List ℕ)) : Type 0 where
    pub left : users_left n users (first ∷ rows) ≡ users_left n users rows
    pub path : IsPath n users rows
    pub fewer : steps_left n users rows < steps_left n users (first ∷ rows)

  -- after a node, which is the first of a row
  pub record IsAfterNode (first : List ℕ) (k : ℕ) (rest : List ℕ) (rows : List (List ℕ)) : Type 0 where
    pub left : users_left n users (first ∷ rows) ≡ k ∷ users_left n users (rest ∷ rows)
    pub path : IsPath n users (rest ∷ rows)

  -- after a condition, which is the first of a row: what reads it comes before the rest
  pub record IsAfterCondition (first next rest : List ℕ) (rows : List (List ℕ)) : Type 0 where
    pub left : users_left n users (first ∷ rows) ≡ users_left n users (next ∷ (rest ∷ rows))
    pub path : IsPath n users (next ∷ (rest ∷ rows))
    pub fewer : steps_left n users (next ∷ (rest ∷ rows)) < steps_left n users (first ∷ rows)
    pub room : length (rest ∷ rows) < 66

  pub row_ended : (first : List ℕ) (rows : List (List ℕ)) → length first ≡ 0 → IsPath n users (first ∷ rows) → IsAfterRow first rows
  row_ended [] rows e path = record {
    left = refl;
    path = record { leveled = path.leveled; few = (let few = path.few in omega (arith, few)); high = path.high.1 };
    fewer = omega arith;
  }
  row_ended (k ∷ ks) rows e path = absurd (omega (arith, e))

  module _ (k : ℕ) (rest : List ℕ) (rows : List (List ℕ)) (path : IsPath n users ((k ∷ rest) ∷ rows)) where
    rest_high : IsHigh n users path.leveled.level (length rows) rest
    rest_high = record {
      inside = λ j c. path.high.0.inside j (contains_later k j rest c);
      high = λ j c above. path.high.0.high j (contains_later k j rest c) above;
    }

    pub first_inside : k < length users
    first_inside = path.high.0.inside k (contains_first k rest)

    pub node_next : k < n → IsAfterNode (k ∷ rest) k rest rows
    node_next below = record {
      left = ap (λ ks. ks ++ users_left n users rows) (node_users n users path.leveled k rest below);
      path = record { leveled = path.leveled; few = path.few; high = (rest_high, path.high.1) };
    }

    module _ (above : n ≤ k) where
      around : length rows ≤ path.leveled.level k
      around = path.high.0.high k (contains_first k rest) above

      next_high : IsHigh n users path.leveled.level (length (rest ∷ rows)) (row users k)
      next_high = record {
        inside = λ j c. path.leveled.closed k j c;
        high = λ j c higher. let up = path.leveled.rises k j above higher c in let low = around in omega (arith, up, low);
      }

      more : length (user_trails n users (k ∷ rest)) ≡ suc (length (user_trails n users (row users k)) + length (user_trails n users rest))
      more =
          ap (λ js. length (js ++ user_trails n users rest)) (condition_trail n users path.leveled k above)
          ∙ ap suc (length-append (user_trails n users (row users k)) (user_trails n users rest))

      pub condition_next : IsAfterCondition (k ∷ rest) (row users k) rest rows
      condition_next =
          let low = around in
          let most = path.leveled.few k in
          let trails = more in
          record {
            left =
                ap (λ ks. ks ++ users_left n users rows) (condition_users n users path.leveled k rest above)
                ∙ append_assoc (whole_users n users (row users k)) (whole_users n users rest) (users_left n users rows);
            path = record { leveled = path.leveled; few = omega (arith, low, most); high = (next_high, (rest_high, path.high.1)) };
            fewer = omega (arith, trails);
            room = omega (arith, low, most);
          }

  -- the row of a node alone
  pub first_path : (first : List ℕ) → AreLeveled n users → AreInside users first → IsPath n users (first ∷ [])
  first_path first leveled inside = record {
    leveled = leveled;
    few = omega arith;
    high = (record { inside = inside; high = λ k c above. omega arith }, tt);
  }

-- a list with one more at its end, the last first
pub last_first : {A B : Type 0} (f : A → B) (xs ys : List A) (x : A) → xs ≡ ys ++ x ∷ [] → reverse (map f xs) ≡ f x ∷ reverse (map f ys)
last_first f xs ys x e = ap (λ zs. reverse (map f zs)) e ∙ ap reverse (map-append f ys (x ∷ [])) ∙ reverse-append (map f ys) (f x ∷ [])

-- ---- the rows that are left, before and after a number
module _ (n : ℕ) (users old : List (List ℕ)) (path : IsPath n users old) (first : List ℕ) (rows : List (List ℕ)) (popped : old ≡ first ∷ rows) where
  pub row_step : length first ≡ 0 → (users_left n users old ≡ users_left n users rows) × IsPath n users rows
  row_step none =
      let step = row_ended n users first rows none (subst (IsPath n users) popped path) in
      (ap (users_left n users) popped ∙ step.left, step.path)

  module _ (k : ℕ) (rest : List ℕ) (is : first ≡ k ∷ rest) where
    whole : old ≡ (k ∷ rest) ∷ rows
    whole = popped ∙ ap (λ r. r ∷ rows) is

    pub node_step : k < n → (now : List (List ℕ)) → now ≡ rest ∷ rows → (users_left n users old ≡ k ∷ users_left n users now) × IsPath n users now
    node_step below now pushed =
        let step = node_next n users k rest rows (subst (IsPath n users) whole path) below in (
          ap (users_left n users) whole ∙ step.left ∙ ap (λ rs. k ∷ users_left n users rs) (sym pushed),
          subst (IsPath n users) (sym pushed) step.path,
        )

    -- there is room for one more
    pub room_left : n ≤ k → length (rest ∷ rows) < 66
    room_left above = (condition_next n users k rest rows (subst (IsPath n users) whole path) above).room

    pub condition_step : n ≤ k → (next : List ℕ) → next ≡ row users k → (now : List (List ℕ)) → now ≡ next ∷ (rest ∷ rows)
        → (users_left n users old ≡ users_left n users now) × IsPath n users now × (steps_left n users now < steps_left n users old)
    condition_step above next read now pushed =
        let step = condition_next n users k rest rows (subst (IsPath n users) whole path) above in
        let last : now ≡ row users k ∷ (rest ∷ rows) = pushed ∙ ap (λ r. r ∷ (rest ∷ rows)) read in (
          ap (users_left n users) whole ∙ step.left ∙ ap (users_left n users) (sym last),
          subst (IsPath n users) (sym last) step.path,
          (let fewer = step.fewer in
              let before = ap (steps_left n users) whole in
              let after = ap (steps_left n users) last in
              omega (arith, fewer, before, after)),
        )
