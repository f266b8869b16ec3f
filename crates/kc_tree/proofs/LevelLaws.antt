-- A condition is on a level: by how many blocks are around what it is the condition of.
use Rattle.std.proofs.Common.{◌≡◌, ◌↔◌, ℕ, zero, suc, ◌<◌, ◌≤◌, List, [], ◌∷◌, ◌++◌, length, map, Option, Some, None, ap, subst, ◌∙◌, arith}
use Rattle.std.specs.List.{Contains, slice_get}
use Rattle.std.specs.Option.{option_and_then, option_map_or}
use Rattle.kc_graph.specs.Graph as graph
use Rattle.kc_outline.specs.declared.id.BlockId.{BlockId}
use Rattle.kc_outline.specs.Nested.{AreNested}
use Rattle.kc_outline.specs.TreeValue.{TreeValue, BlockValue, blocks_around, blocks_from}
use Rattle.kc_tree.specs.declared.node.Node.{Node}
use Rattle.kc_tree.specs.declared.cell.Cell.{Cell}
use Rattle.kc_tree.specs.declared.cell.Cell.TheVariants.{Node as OfNode, Definition, Depends, Visible}
use Rattle.kc_tree.specs.CellLaws.{Reads}
use Rattle.kc_tree.specs.CellRows.{AreRowsTo}
use Rattle.kc_tree.specs.Cells.{IsCondition, cell_at, cell_count, depends_cells, nodes_in, read_cells, visible_cells}
use Rattle.kc_tree.specs.Nodes.{IsNodeOf, node_at, node_count, number_of}
use Rattle.kc_tree.specs.Users.{AreLeveled, whole_users}
use Rattle.kc_tree.specs.Uses.{Uses, conditions_nodes}
use Rattle.kc_tree.specs.WholeRows.{Holds}
use Rattle.kc_tree.proofs.CellNumbers.{at_node, condition_at}
use Rattle.kc_tree.proofs.CellReads.{AreLower, lower_after, lower_depends, lower_option, lower_visible, uses_reads}
use Rattle.kc_tree.proofs.CellTables.{holds_reads, read_of, reads_holds, row_within}
use Rattle.kc_tree.proofs.NodeGraphLaws.{user_is_node}
use Rattle.kc_tree.proofs.NodeNumbers.{at_below, Contains-from_map, Contains-map, node_at-number_of, number_below}
use Rattle.kc_tree.proofs.UserLaws.{users_held}

module _ (t : TreeValue) where
  -- ---- levels
  abbrev block_around : Cell → Option BlockId
  block_around (OfNode n) = None
  block_around (Definition d) = option_and_then (λ x. x.block) (slice_get t.definitions d)
  block_around (Depends b) = option_and_then (λ x. x.parent) (slice_get t.blocks b.0)
  block_around (Visible b) = option_and_then (λ x. x.parent) (slice_get t.blocks b.0)

  abbrev level_of : Cell → ℕ
  level_of c = length (blocks_around t (block_around c))

  few_more : (n : ℕ) (o : Option BlockValue) → ((id : Option BlockId) → length (blocks_from t.blocks n id) ≤ n) → length (option_map_or (λ b. b ∷ blocks_from t.blocks n b.parent) o []) ≤ suc n
  few_more n None few = omega arith
  few_more n (Some b) few = let rest = few b.parent in omega (arith, rest)

  few_from : (n : ℕ) (id : Option BlockId) → length (blocks_from t.blocks n id) ≤ n
  few_from zero id = omega arith
  few_from (suc n) None = omega arith
  few_from (suc n) (Some id) = few_more n (slice_get t.blocks id.0) (λ p. few_from n p)

  module _ (nested : AreNested t) where
    -- a block has one block less around than what is in it
    one_less : (o : Option BlockId) (b : BlockId) → o ≡ Some b → (x : BlockValue) → slice_get t.blocks b.0 ≡ Some x
        → length (blocks_around t (option_and_then (λ y. y.parent) (slice_get t.blocks b.0))) < length (blocks_around t o)
    one_less o b up x there =
        let inner : length (blocks_around t (option_and_then (λ y. y.parent) (slice_get t.blocks b.0))) ≡ length (blocks_around t x.parent) =
        ap (λ r. length (blocks_around t (option_and_then (λ y. y.parent) r))) there in
        let outer : length (blocks_around t o) ≡ suc (length (blocks_around t x.parent)) =
        ap (λ r. length (blocks_around t r)) up ∙ ap length (nested.around b x there) in
        omega (arith, inner, outer)

    -- a condition reads conditions on lower levels
    lower_level : (c : Cell) → IsCondition c → AreLower t level_of (level_of c) (read_cells t c)
    lower_level (OfNode n) is = absurd is
    lower_level (Definition d) is =
        let k = level_of (Definition d) in
        lower_option t level_of k (λ x. nodes_in (conditions_nodes t x.depends) ++ depends_cells t x.block) (slice_get t.definitions d)
        (λ x there. lower_after t level_of k (conditions_nodes t x.depends) (depends_cells t x.block) (lower_depends t level_of k x.block (λ b up y within.
        let own = ap (λ r. length (blocks_around t (option_and_then (λ z. z.block) r))) there in
        let less = one_less x.block b up y within in
        omega (arith, own, less))))
    lower_level (Depends b) is =
        let k = level_of (Depends b) in
        lower_option t level_of k (λ x. nodes_in (conditions_nodes t x.depends) ++ depends_cells t x.parent) (slice_get t.blocks b.0)
        (λ x there. lower_after t level_of k (conditions_nodes t x.depends) (depends_cells t x.parent) (lower_depends t level_of k x.parent (λ p up y within.
        let own = ap (λ r. length (blocks_around t (option_and_then (λ z. z.parent) r))) there in
        let less = one_less x.parent p up y within in
        omega (arith, own, less))))
    lower_level (Visible b) is =
        let k = level_of (Visible b) in
        lower_option t level_of k (λ x. nodes_in (conditions_nodes t x.visible) ++ visible_cells t x.parent) (slice_get t.blocks b.0)
        (λ x there. lower_after t level_of k (conditions_nodes t x.visible) (visible_cells t x.parent) (lower_visible t level_of k x.parent (λ p up y within.
        let own = ap (λ r. length (blocks_around t (option_and_then (λ z. z.parent) r))) there in
        let less = one_less x.parent p up y within in
        omega (arith, own, less))))

    -- ---- the table of what reads each cell
    module _ (g : List (List ℕ)) (rows : AreRowsTo t (cell_count t) g) (users : List (List ℕ)) (converse : graph.IsConverse g users) where
      pub leveled : AreLeveled (node_count t) users
      leveled = record {
        closed = λ p q u. (let small = row_within t g rows q p (converse.to_use p q u) in let whole = rows.whole in let size = converse.size in omega (arith, small, whole, size));
        level = λ k. level_of (cell_at t k);
        few = λ k. few_from 64 (block_around (cell_at t k));
        rises = λ k j low high u.
            lower_level (cell_at t j) (condition_at t j high) (cell_at t k) (condition_at t k low) (read_of t g rows j k (converse.to_use k j u)).0;
      }

      held : (node : Node) → IsNodeOf t node → (p : ℕ) → Contains (whole_users (node_count t) users (graph.row users (number_of t node))) p ↔ ((p < node_count t) × Holds (node_count t) g p (number_of t node))
      held node inside p = users_held (node_count t) users leveled g converse p (number_of t node) (number_below t node inside)

      -- what is found for a node is what is computed from it
      pub users_exact : (node m : Node) → IsNodeOf t node → Contains (map (node_at t) (whole_users (node_count t) users (graph.row users (number_of t node)))) m ↔ Uses t m node
      users_exact node m inside = (
        λ c.
            let r = Contains-from_map (node_at t) (whole_users (node_count t) users (graph.row users (number_of t node))) m c in
            let h = (held node inside r.0).0 r.1 in
            let user = at_below t r.0 h.0 in
            let reads = subst (λ d. Reads t d (node_at t (number_of t node))) (at_node t r.0 h.0) (holds_reads t g rows nested r.0 (number_of t node) h.1) in
            let used = (uses_reads t nested (node_at t r.0) node user).1 (subst (λ d. Reads t (OfNode (node_at t r.0)) d) (node_at-number_of t node inside) reads) in
            subst (λ k. Uses t k node) r.2 used,
        λ u.
            let user = user_is_node t m node u in
            let reads = reads_holds t g rows nested (OfNode m) node user ((uses_reads t nested m node user).0 u) in
            let there = (held node inside (number_of t m)).1 (number_below t m user, reads) in
            subst (λ k. Contains (map (node_at t) (whole_users (node_count t) users (graph.row users (number_of t node)))) k) (node_at-number_of t m user)
            (Contains-map (node_at t) (whole_users (node_count t) users (graph.row users (number_of t node))) (number_of t m) there),
      )
