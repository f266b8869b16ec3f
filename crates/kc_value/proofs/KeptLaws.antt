-- The laws of what is kept hold of each tree.
use Rattle.std.proofs.Common.{◌≡◌, ℕ, ◌+◌, ◌<◌, ◌≤◌, true≢false, List, length, map, take, get_or, Option, None, is_some, sym, ap, ◌∙◌, subst, inl, inr, arith}
use Rattle.std.specs.List.{Contains}
use Rattle.std.proofs.lemmas.List.{get_or-take, length-map, length-replicate, length-take, length-take-le}
use Rattle.kc_outline.specs.TreeValue.{TreeValue}
use Rattle.kc_tree.specs.declared.node.Node.{Node}
use Rattle.kc_tree.specs.declared.node.Node.TheVariants.{Vis, Val, Mode, Sel}
use Rattle.kc_tree.specs.CellLaws.{CellLaws}
use Rattle.kc_tree.specs.Cells.{cell_count, cell_number}
use Rattle.kc_tree.specs.Nodes.{IsNodeOf, node_at, node_count, number_of}
use Rattle.kc_tree.proofs.NodeNumbers.{are_numbered, at_below, number_of-node_at, Contains-number}
use Rattle.kc_value.specs.declared.value.Value.{Value}
use Rattle.kc_value.specs.Dirty.{Edits, IsDirty}
use Rattle.kc_value.specs.Kept.{AreKept, IsClosed, KeptValue, kept_count, nothing_kept}
use Rattle.kc_value.specs.KeptLaws.{KeptLaws}
use Rattle.kc_value.proofs.FillLaws.{fill_laws_hold}
use Rattle.kc_value.specs.UserValues.{UserValues}
use Rattle.kc_value.proofs.EditLaws.{edits_nothing, edits_once}
use Rattle.kc_value.proofs.KeptCounts.{DiffersWithin, value_count-differs, value_count-within}
use Rattle.kc_value.proofs.KeptReading.{mode_used, visibility_used}
use Rattle.kc_value.proofs.SolvedLaws.{kept_right, kept_solved, node_right, used_kept}
use Rattle.kc_value.proofs.UserLemmas.{none_in}

-- ---- nothing is kept
no_value : (t : TreeValue) (k : ℕ) → get_or (nothing_kept t).values k None ≡ None
no_value t k = none_in {X = Value} (cell_count t) k

pub nothing_right : (t : TreeValue) (u : UserValues) → AreKept t u (nothing_kept t).values
nothing_right t u = record {
  closed = record {
    whole = length-replicate {A = Option Value} (cell_count t) None;
    closed = λ c e inside held listed. absurd (true≢false (sym held ∙ ap is_some (no_value t (cell_number t c))));
  };
  right = λ c v inside at. absurd (true≢false (sym (ap is_some (sym (no_value t (cell_number t c)) ∙ at))));
}

-- ---- how many values are kept
count_within : (t : TreeValue) (kept : List (Option Value)) → IsClosed t kept → kept_count t kept ≤ node_count t
count_within t kept closed = omega (arith, value_count-within (take (node_count t) kept), length-take (node_count t) kept)

module _ (t : TreeValue) (u w : UserValues) (old new : KeptValue) (dirty : List Node) (before : IsClosed t old.values) (after : IsClosed t new.values) where
  few_before : length (take (node_count t) old.values) ≡ node_count t
  few_before = length-take-le (node_count t) old.values (omega (arith, before.whole))

  few_after : length (take (node_count t) new.values) ≡ node_count t
  few_after = length-take-le (node_count t) new.values (omega (arith, after.whole))

  -- an edit leaves the places of nodes but for those of the dirty ones
  edits_differ : ((n : Node) → IsNodeOf t n → IsDirty t u w n → Contains dirty n) → Edits t u w old new
      → DiffersWithin (map (number_of t) dirty) (take (node_count t) old.values) (take (node_count t) new.values)
  edits_differ has edits k below =
      let few : k < node_count t = omega (arith, below, few_before) in
      let inside : IsNodeOf t (node_at t k) = at_below t k few in
      elim (edits.each (node_at t k) inside) [
        | inl same ↦ inl (
            get_or-take (node_count t) new.values k None few
            ∙ subst (λ j. get_or new.values j None ≡ get_or old.values j None) (number_of-node_at t k) same
            ∙ sym (get_or-take (node_count t) old.values k None few)
            )
        | inr drop ↦ inr (Contains-number (length t.symbols) dirty k (has (node_at t k) inside drop.1))
      ]

  count_dropped : ((n : Node) → IsNodeOf t n → IsDirty t u w n → Contains dirty n) → Edits t u w old new → kept_count t old.values ≤ kept_count t new.values + length dirty
  count_dropped has edits =
      let fewer : kept_count t old.values ≤ kept_count t new.values + length (map (number_of t) dirty) =
      value_count-differs (take (node_count t) new.values) (map (number_of t) dirty) (take (node_count t) old.values) (few_before ∙ sym few_after) (edits_differ has edits) in
      omega (arith, fewer, length-map dirty (number_of t))

-- ---- all of them
pub laws_hold : (t : TreeValue) → CellLaws t → KeptLaws t
laws_hold t laws = record {
  numbered = are_numbered t;
  visibility_used = λ s inside. visibility_used t s inside;
  mode_used = λ c inside. mode_used t c inside;
  visibility_kept = λ kept s closed inside is. (used_kept t laws kept closed (Val s) (Vis s) inside is (visibility_used t s inside)).1;
  mode_kept = λ kept c closed inside is. (used_kept t laws kept closed (Sel c) (Mode c) inside is (mode_used t c inside)).1;
  right = λ u kept are. node_right t laws u kept are;
  used_right = λ u kept are n inside is m uses. (kept_solved t laws u kept are).used n m inside is uses;
  conditions_right = λ u kept are. kept_right t laws u kept are;
  used_kept = λ kept closed n m inside is uses. (used_kept t laws kept closed n m inside is uses).1;
  fills = fill_laws_hold t;
  edits_nothing = edits_nothing t;
  edits_once = edits_once t;
  count_within = count_within t;
  count_dropped = λ u w old new dirty before after has edits. count_dropped t u w old new dirty before after has edits;
}
