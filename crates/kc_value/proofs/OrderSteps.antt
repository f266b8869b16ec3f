-- A pass over all cells in the tree's order.
use Rattle.std.proofs.Common.{◌≡◌, ℕ, ◌+◌, ◌<◌, ◌≤◌, List, [], Option, length, get_or, take, sym, ◌∙◌, subst, ⊎_elim, arith}
use Rattle.std.specs.List.{Contains}
use Rattle.std.proofs.lemmas.List.{take_all, take_more}
use Rattle.std.proofs.lemmas.List.Elements.{Contains-push_cases, Contains-get_or}
use Rattle.std.proofs.lemmas.List.FromFn.{get_or-map-range_with_len, length-map-range_with_len}
use Rattle.std.proofs.lemmas.Option.{slice_get-get_or}
use Rattle.kc_outline.specs.TreeValue.{TreeValue}
use Rattle.kc_tree.specs.declared.cell.Cell.{Cell}
use Rattle.kc_tree.specs.declared.cell.Cell.TheVariants.{Node as OfNode}
use Rattle.kc_tree.specs.declared.node.Node.{Node}
use Rattle.kc_tree.specs.CellLaws.{CellLaws, IsCellOrder}
use Rattle.kc_tree.specs.Cells.{IsCellOf, cell_at, cell_count, cell_number, read_cells}
use Rattle.kc_tree.specs.Nodes.{IsNodeOf, all_nodes, node_at, node_count, number_of}
use Rattle.kc_tree.specs.Reached.{Reached, here}
use Rattle.kc_tree.proofs.NodeNumbers.{node_at-number_of, number_below}
use Rattle.kc_value.specs.declared.value.Value.{Value}
use Rattle.kc_value.specs.FillWalk.{HasValue}
use Rattle.kc_value.specs.Kept.{Fills, IsHeld, IsKept, KeptValue}
use Rattle.kc_value.proofs.FillLaws.{fills_nothing, fills_wider}

-- each node of the tree is among all nodes
pub in_all : (t : TreeValue) (n : Node) → IsNodeOf t n → Contains (all_nodes t) n
in_all t n inside =
    let k : ℕ = number_of t n in
    let below : k < node_count t = number_below t n inside in
    let within : k < length (all_nodes t) = subst (λ j. k < j) (sym (length-map-range_with_len (node_at t) 0 (node_count t))) below in
    (k, within, get_or-map-range_with_len (node_at t) 0 (node_count t) k k n below (omega arith) ∙ node_at-number_of t n inside)

pub reached_all : (t : TreeValue) → CellLaws t → (k : ℕ) → k < cell_count t → (n : Node) → cell_at t k ≡ OfNode n → Reached t (all_nodes t) n
reached_all t laws k below n e = (n, in_all t n (subst (IsCellOf t) e (laws.inside k below)), here)

-- the cells of the order up to a place have values
abbrev pub AreDone : List ℕ → ℕ → List (Option Value) → Type 0
AreDone order i kept = (k : ℕ) → Contains (take i order) k → HasValue kept k

module _ (t : TreeValue) (laws : CellLaws t) (order : List ℕ) (is : IsCellOrder t order) (i : ℕ) (within : i < length order) where
  abbrev next : ℕ
  next = get_or order i 0

  pub next_cell : next < cell_count t
  next_cell = is.within next (Contains-get_or order i 0 within)

  -- what the next cell reads was met before it
  pub next_ready : (kept : List (Option Value)) → AreDone order i kept → (e : Cell) → Contains (read_cells t (cell_at t next)) e → IsHeld t kept e
  next_ready kept done e c = done (cell_number t e) (is.after_read i next e (slice_get-get_or order i 0 within) c)

  pub next_done : (before after : List (Option Value)) → AreDone order i before → ((k : ℕ) → HasValue before k → HasValue after k) → IsHeld t after (cell_at t next) → AreDone order (i + 1) after
  next_done before after done stays held k c =
      ⊎_elim
      (λ early. stays k (done k early))
      (λ same. subst (HasValue after) (laws.at next next_cell ∙ same) held)
      (Contains-push_cases (take i order) next k (subst (λ xs. Contains xs k) (take_more order i 0 within) c))

-- all were met
pub all_done : (t : TreeValue) → CellLaws t → (order : List ℕ) → IsCellOrder t order → (i : ℕ) (kept : List (Option Value)) → length order ≤ i → AreDone order i kept
    → (n : Node) → IsNodeOf t n → IsKept t kept n
all_done t laws order is i kept past done n inside =
    done (number_of t n) (subst (λ xs. Contains xs (number_of t n)) (sym (take_all i order past)) (is.all (number_of t n) (laws.below (OfNode n) inside)))

pub none_done : (order : List ℕ) (kept : List (Option Value)) → AreDone order 0 kept
none_done order kept k c = absurd (omega (arith, c.1))

-- nothing was filled yet
pub all_begun : (t : TreeValue) (k : KeptValue) → Fills t (all_nodes t) k k
all_begun t k = fills_wider t [] (all_nodes t) k k (λ n h. absurd (omega (arith, h.1.1))) (fills_nothing t k)
