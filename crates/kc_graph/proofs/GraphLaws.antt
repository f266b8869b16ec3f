-- A graph with an order has no loop, and a closed one names only its own nodes.
use Rattle.std.proofs.Common.{◌≡◌, ℕ, ◌+◌, ◌-◌, ◌<◌, List, [], Option, Some, None, length, zero, suc, slice_index, inl, inr, sym, ◌∙◌, arith}
use Rattle.std.specs.List.{slice_get}
use Rattle.std.specs.Option.{IfSome}
use Rattle.std.proofs.lemmas.Bool.{cases_lt}
use Rattle.std.proofs.lemmas.List.{get_or_past, get_or_default}
use Rattle.std.proofs.lemmas.Option.{slice_get_within, get_or_from_slice_get}
use Rattle.kc_graph.specs.Graph.{row, Uses, IsClosed, IsOrder, IsLoop}

-- a node that uses another one has a row
pub user-within : (g : List (List ℕ)) (p q : ℕ) → Uses g p q → p < length g
user-within g p q u =
    elim (cases_lt p (length g)) [
      | inl h ↦ h
      | inr h ↦ let e = get_or_past g p [] h in let k : u.0 < length (row g p) = u.1 in absurd (omega (arith, rw e at k))
    ]

-- each place of a loop has a place whose node its node uses
next_place : (g : List (List ℕ)) (nodes : List ℕ) (i : ℕ) → IsLoop g nodes → i < length nodes → (j : ℕ) × (j < length nodes) × Uses g (slice_index nodes i) (slice_index nodes j)
next_place g nodes i loop inside =
    elim (cases_lt (i + 1) (length nodes)) [
      | inl h ↦ (i + 1, h, loop.next i h)
      | inr h ↦ let e : length nodes - 1 ≡ i = omega arith in (0, loop.some, rw e at loop.last)
    ]

-- no node of a loop stands in the order at a place below a bound, whatever the bound
none_below : (g : List (List ℕ)) (order nodes : List ℕ) → IsOrder g order → IsLoop g nodes → (bound i j : ℕ) → i < length nodes → j < length order → slice_index order j ≡ slice_index nodes i → j < bound → ⊥
none_below g order nodes is_order loop zero i j inside placed e h = omega arith
none_below g order nodes is_order loop (suc bound) i j inside placed e h =
    let n = next_place g nodes i loop inside in
    let u : Uses g (slice_index order j) (slice_index nodes n.0) = rw e n.2 in
    let before = is_order.after j (slice_index nodes n.0) placed u in
    none_below g order nodes is_order loop bound n.0 before.0 n.1 (omega (arith, before.1)) before.2 (omega (arith, before.1))

pub no_loop : (g : List (List ℕ)) (order : List ℕ) → IsOrder g order → (nodes : List ℕ) → IsLoop g nodes → ⊥
no_loop g order is_order nodes loop =
    let n = next_place g nodes 0 loop loop.some in
    let placed = is_order.complete (slice_index nodes 0) (user-within g _ _ n.2) in
    none_below g order nodes is_order loop (placed.0 + 1) 0 placed.0 loop.some placed.1 (get_or_default order placed.0 _ _ placed.1 ∙ placed.2) (omega arith)

-- a use of a closed graph has a row
pub use_within : (g : List (List ℕ)) (node next : ℕ) (found : Option ℕ) → IsClosed g → found ≡ slice_get (row g node) next → IfSome found (λ used. used < length g)
use_within g node next None closed e = tt
use_within g node next (Some used) closed e =
    closed node used (next, slice_get_within (row g node) next used (sym e), get_or_from_slice_get (row g node) next used used (sym e))
