use Rattle.std.proofs.Common.{◌≡◌, ℕ, List, filter, length, map, subst, sym, ap, ◌∙◌}
use Rattle.kc_tree.specs.declared.node.Node.{Node}
use Rattle.kc_tree.specs.Nodes.{node_at, node_count, node_in}
use Rattle.kc_tree.specs.Order.{IsOrder}
use Rattle.kc_tree.specs.WholeRows.{is_node}
use Rattle.kc_tree.proofs.LinkLaws.{nodes_ordered}
use Rattle.kc_tree.proofs.tree.Tree.order.Goals as goal

pub returns-clause-order : goal.returns-clause-order
returns-clause-order c =
    let o = c.self.inside.outline in
    let known = c.self.invariant in
    let cells = c.self.inside.order.items in
    let symbols : length c.symbols.result.now ≡ length o.symbols = ap length c.symbols.ensures in
    let count : c.node_count.result ≡ node_count o = c.node_count.ensures.count ∙ ap node_count (sym c.self.view_is) in
    let made : c.of.result ≡ map (node_at o) (filter (is_node (node_count o)) cells) =
    c.of.ensures
    ∙ ap (λ (s : ℕ). map (node_in s) (filter (is_node c.node_count.result) c.as_slice.result.now)) symbols
    ∙ ap (λ (n : ℕ). map (node_at o) (filter (is_node n) c.as_slice.result.now)) count
    ∙ ap (λ (ks : List ℕ). map (node_at o) (filter (is_node (node_count o)) ks)) c.as_slice.ensures.value in
    subst (λ t. IsOrder t c.of.result) c.self.view_is
    (subst (λ (ns : List Node). IsOrder o ns) (sym made) (nodes_ordered o c.self.inside.uses known.uses known.accepted.nested cells known.order))
