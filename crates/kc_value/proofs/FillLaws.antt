-- The laws of what is kept once nodes were asked hold.
use Rattle.std.proofs.Common.{◌≡◌, ℕ, ◌+◌, ◌-◌, ◌^◌, ◌≤◌, true≢false, List, [], ◌++◌, Option, is_some, refl, sym, ap, ◌∙◌, subst, inl, inr, ⊎_elim}
use Rattle.std.specs.Prelude.{min}
use Rattle.std.specs.List.{Contains}
use Rattle.std.proofs.lemmas.Bool.{cases_lt}
use Rattle.std.proofs.lemmas.List.Elements.{Contains-append_left, Contains-append_right, Contains-append_cases}
use Rattle.std.proofs.Math.Nat.{add_assoc, add_comm, add-zero, add-min-add_right, add-sub_assoc, le_of_lt, le_refl, le_trans, le-add_right, min-eq_left, min-eq_right, min-zero, sub_self, sub-add_cancel, sub-add-eq, zero-min}
use Rattle.kc_outline.specs.TreeValue.{TreeValue}
use Rattle.kc_tree.specs.declared.node.Node.{Node}
use Rattle.kc_tree.specs.Nodes.{IsNodeOf}
use Rattle.kc_tree.specs.Reached.{Reached}
use Rattle.kc_value.specs.declared.value.Value.{Value}
use Rattle.kc_value.specs.Counting.{raised}
use Rattle.kc_value.specs.FillLaws.{FillLaws}
use Rattle.kc_value.specs.Kept.{Adds, Fills, IsKept, KeptValue, kept_count}

-- ---- counts
-- as much of a room as one number takes, and then another, is what both take at once
room_within : (j k room : ℕ) → j ≤ room → min j room + min k (room - min j room) ≡ min (j + k) room
room_within j k room fits =
    ap (λ m. m + min k (room - m)) (min-eq_left fits)
    ∙ add_comm j (min k (room - j))
    ∙ sym (add-min-add_right k (room - j) j)
    ∙ ap (λ m. min m (room - j + j)) (add_comm k j)
    ∙ ap (λ m. min (j + k) m) (sub-add_cancel fits)

room_past : (j k room : ℕ) → room ≤ j → min j room + min k (room - min j room) ≡ min (j + k) room
room_past j k room past =
    ap (λ m. m + min k (room - m)) (min-eq_right past)
    ∙ ap (λ m. room + min k m) (sub_self room)
    ∙ ap (λ m. room + m) (min-zero k)
    ∙ add-zero room
    ∙ sym (min-eq_right (le_trans past (le-add_right j k)))

room_taken : (j k room : ℕ) → min j room + min k (room - min j room) ≡ min (j + k) room
room_taken j k room = ⊎_elim (λ fits. room_within j k room (le_of_lt fits)) (λ past. room_past j k room past) (cases_lt j room)

raised_by_both : (count j k : ℕ) → raised (raised count j) k ≡ raised count (j + k)
raised_by_both count j k =
    let room : ℕ = 2 ^ 64 - 1 - count in
    add_assoc count (min j room) (min k (2 ^ 64 - 1 - (count + min j room)))
    ∙ ap (λ m. count + (min j room + min k m)) (sub-add-eq (2 ^ 64 - 1) count (min j room))
    ∙ ap (λ m. count + m) (room_taken j k room)

-- a count that is raised from one number to a second, and then to a third, is raised from the first to the third
raised_twice : (count a b c : ℕ) → a ≤ b → b ≤ c → raised (raised count (b - a)) (c - b) ≡ raised count (c - a)
raised_twice count a b c lower upper =
    raised_by_both count (b - a) (c - b)
    ∙ ap (λ m. raised count m) (add_comm (b - a) (c - b) ∙ sym (add-sub_assoc lower (c - b)) ∙ ap (λ m. m - a) (sub-add_cancel upper))

raised_by_none : (count a : ℕ) → count ≡ raised count (a - a)
raised_by_none count a =
    sym (ap (λ m. raised count m) (sub_self a) ∙ ap (λ m. count + m) (zero-min (2 ^ 64 - 1 - count)) ∙ add-zero count)

-- ---- asking nodes
-- what is reached from some nodes is reached from more
reached_from_more : (t : TreeValue) (p q : List Node) → ((n : Node) → Contains p n → Contains q n) → (n : Node) → Reached t p n → Reached t q n
reached_from_more t p q more n (m, asked, leads) = (m, more m asked, leads)

-- where nothing was asked, what is kept is as it was
pub fills_nothing : (t : TreeValue) (k : KeptValue) → Fills t [] k k
fills_nothing t k = record {
  adds = record { each = λ n inside. inl refl; more = le_refl (kept_count t k.values) };
  counted = raised_by_none k.evals (kept_count t k.values);
}

-- asking nodes is a case of asking others from which at least as many are reached
pub fills_wider : (t : TreeValue) (p q : List Node) (r s : KeptValue) → ((n : Node) → Reached t p n → Reached t q n) → Fills t p r s → Fills t q r s
fills_wider t p q r s wider f = record {
  adds = record {
    each = λ n inside. ⊎_elim (λ same. inl same) (λ h. inr (h.0, h.1, wider n h.2)) (f.adds.each n inside);
    more = f.adds.more;
  };
  counted = f.counted;
}

adds_then : (t : TreeValue) (p q : List Node) (r s u : List (Option Value)) → Adds t p r s → Adds t q s u → Adds t (p ++ q) r u
adds_then t p q r s u f g = record {
  each = λ n inside.
      ⊎_elim
      (λ same.
      ⊎_elim
      (λ before. inl (same ∙ before))
      (λ h. inr (h.0, ap is_some same ∙ h.1, reached_from_more t p (p ++ q) (λ m c. Contains-append_left p q m c) n h.2))
      (f.each n inside))
      (λ h.
      ⊎_elim
      (λ before. inr (sym before ∙ h.0, h.1, reached_from_more t q (p ++ q) (λ m c. Contains-append_right p q m c) n h.2))
      (λ k. absurd (true≢false (sym k.1 ∙ ap is_some h.0)))
      (f.each n inside))
      (g.each n inside);
  more = le_trans f.more g.more;
}

-- asking some nodes and then others is asking all of them
pub fills_then : (t w : TreeValue) (p q : List Node) (r s u : KeptValue) → w ≡ t → Fills t p r s → Fills w q s u → Fills t (p ++ q) r u
fills_then t w p q r s u same f later =
    let g : Fills t q s u = subst (λ x. Fills x q s u) same later in
    record {
      adds = adds_then t p q r.values s.values u.values f.adds g.adds;
      counted =
          g.counted
          ∙ ap (λ e. raised e (kept_count t u.values - kept_count t s.values)) f.counted
          ∙ raised_twice r.evals (kept_count t r.values) (kept_count t s.values) (kept_count t u.values) f.adds.more g.adds.more;
    }

-- asking some of the nodes once more is asking them once
pub fills_again : (t w : TreeValue) (p q : List Node) (r s u : KeptValue) → w ≡ t → ((n : Node) → Contains q n → Contains p n) → Fills t p r s → Fills w q s u → Fills t p r u
fills_again t w p q r s u same among f g =
    fills_wider t (p ++ q) p r u
    (λ n reached. reached_from_more t (p ++ q) p (λ m c. ⊎_elim (λ left. left) (λ right. among m right) (Contains-append_cases p q m c)) n reached)
    (fills_then t w p q r s u same f g)

-- what is kept stays so
pub kept_after : (t w : TreeValue) (p : List Node) (r s : KeptValue) (n : Node) → w ≡ t → IsNodeOf t n → IsKept t r.values n → Fills t p r s → IsKept w s.values n
kept_after t w p r s n same inside kept f =
    subst (λ x. IsKept x s.values n) (sym same)
    (⊎_elim (λ e. ap is_some e ∙ kept) (λ h. h.1) (f.adds.each n inside))

-- ---- all of them
pub fill_laws_hold : (t : TreeValue) → FillLaws t
fill_laws_hold t = record {
  nothing = fills_nothing t;
  both = λ p q r s u f g. fills_then t t p q r s u refl f g;
  again = λ p q r s u among f g. fills_again t t p q r s u refl among f g;
  wider = fills_wider t;
  stays = λ p r s n inside kept f. kept_after t t p r s n refl inside kept f;
}
