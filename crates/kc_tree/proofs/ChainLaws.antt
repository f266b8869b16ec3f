-- A row in which any condition is the last is gone over one number after another.
use Rattle.std.proofs.Common.{◌≡◌, ℕ, suc, ◌<◌, ◌≤◌, List, [], ◌∷◌, ◌++◌, length, filter, refl, sym, ap, subst, ◌∙◌, inl, inr, arith}
use Rattle.std.specs.List.{Contains, IsFirstAndRest}
use Rattle.std.proofs.lemmas.Bool.{cases_lt}
use Rattle.std.proofs.lemmas.List.Elements.{Contains-append_left, Contains-append_right, filter-append}
use Rattle.std.proofs.lemmas.Grind.{flat_map-append}
use Rattle.kc_graph.specs.Graph.{row}
use Rattle.kc_tree.specs.CellRows.{AreChains, AreInside, IsChain}
use Rattle.kc_tree.specs.WholeRows.{is_node, trail, trails, whole_row}
use Rattle.kc_tree.proofs.FlatLaws.{contains_first, contains_later}
use Rattle.kc_tree.proofs.WholeRowLaws.{fewer_after_condition, whole_condition, whole_node}

module _ (n : ℕ) (g : List (List ℕ)) where
  -- the nodes of two rows, one after the other
  pub whole_joined : (left front back : List ℕ) → left ≡ front ++ back → whole_row n g left ≡ whole_row n g front ++ whole_row n g back
  whole_joined left front back e =
      ap (whole_row n g) e
      ∙ ap (filter (is_node n)) (flat_map-append (trail (length g) n g) front back)
      ∙ filter-append (is_node n) (trails n g front) (trails n g back)

  -- after a node, which is the first of what is left
  pub record IsAfterNode (left : List ℕ) (k : ℕ) (next : List ℕ) : Type 0 where
    pub whole : whole_row n g left ≡ k ∷ whole_row n g next
    pub chain : IsChain n next
    pub inside : AreInside g next

  -- after a condition, which is the last: what it reads is left
  pub record IsAfterCondition (left next : List ℕ) : Type 0 where
    pub whole : whole_row n g left ≡ whole_row n g next
    pub chain : IsChain n next
    pub inside : AreInside g next
    pub fewer : length (trails n g next) < length (trails n g left)

  no_more : (xs : List ℕ) → length xs ≡ 0 → xs ≡ []
  no_more [] e = refl
  no_more (x ∷ xs) e = absurd (omega (arith, e))

  module _ (left : List ℕ) (k : ℕ) (rest : List ℕ) (chains : AreChains n g) (chain : IsChain n left) (inside : AreInside g left) (is : IsFirstAndRest left k rest) where
    whole_chain : IsChain n (k ∷ rest)
    whole_chain = subst (IsChain n) is.0 chain

    all_inside : AreInside g (k ∷ rest)
    all_inside = subst (AreInside g) is.0 inside

    here : k < length g
    here = all_inside k (contains_first k rest)

    pub node_first : k < n → IsAfterNode left k rest
    node_first below = record {
      whole = ap (whole_row n g) is.0 ∙ whole_node n g chains k rest here below;
      chain = λ i more. whole_chain (suc i) (omega (arith, more));
      inside = λ j c. all_inside j (contains_later k j rest c);
    }

    pub condition_first : n ≤ k → (next : List ℕ) → next ≡ row g k → IsAfterCondition left next
    condition_first above next read =
        let last : length rest ≡ 0 = elim (cases_lt 1 (length (k ∷ rest))) [
          | inl more ↦ let small = whole_chain 0 more in absurd (omega (arith, small, above))
          | inr none ↦ omega (arith, none)
        ] in
        let one : left ≡ k ∷ [] = is.0 ∙ ap (λ xs. k ∷ xs) (no_more rest last) in
        let before = ap (λ xs. length (trails n g xs)) one ∙ fewer_after_condition n g chains k here above in
        let after = ap (λ xs. length (trails n g xs)) read in
        record {
          whole = ap (whole_row n g) one ∙ whole_condition n g chains k here above ∙ ap (whole_row n g) (sym read);
          chain = subst (IsChain n) (sym read) (chains.chain k above);
          inside = λ j c. chains.closed k j (subst (λ xs. Contains xs j) read c);
          fewer = omega (arith, before, after);
        }

  -- one number alone
  pub one_chain : (front : List ℕ) → length front ≡ 1 → IsChain n front
  one_chain front one i more = absurd (omega (arith, one, more))

  pub front_inside : (left front back : List ℕ) → left ≡ front ++ back → AreInside g left → AreInside g front
  front_inside left front back e inside j c = inside j (subst (λ xs. Contains xs j) (sym e) (Contains-append_left front back j c))

  pub back_inside : (left front back : List ℕ) → left ≡ front ++ back → AreInside g left → AreInside g back
  back_inside left front back e inside j c = inside j (subst (λ xs. Contains xs j) (sym e) (Contains-append_right front back j c))
