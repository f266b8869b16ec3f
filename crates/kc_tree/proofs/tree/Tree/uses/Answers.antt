use Rattle.std.proofs.Common.{◌≡◌, ◌↔◌, ℕ, List, length, map, subst, sym, ap, ◌∙◌}
use Rattle.std.specs.List.{Contains}
use Rattle.kc_graph.specs.Graph as graph
use Rattle.kc_tree.specs.declared.node.Node.{Node}
use Rattle.kc_tree.specs.Nodes.{IsNodeOf, node_at, node_count, node_in, number_in, number_of}
use Rattle.kc_tree.specs.Uses.{Uses}
use Rattle.kc_tree.specs.CellRows.{AreChains}
use Rattle.kc_tree.specs.WholeRows.{whole_row, whole_rows}
use Rattle.kc_tree.proofs.CellTables.{chains, closed_rows, graph_of_rows}
use Rattle.kc_tree.proofs.FactorLaws.{nodes_of_factors}
use Rattle.kc_tree.proofs.NodeGraphLaws.{row_exact}
use Rattle.kc_tree.proofs.NodeNumbers.{number_below}
use Rattle.kc_tree.proofs.WholeRowLaws.{row-whole_rows}
use Rattle.kc_tree.proofs.WithinLaws.{used_within}
use Rattle.kc_tree.proofs.tree.Tree.uses.Goals as goal

pub of-requires-clause-chains : goal.of-requires-clause-chains
of-requires-clause-chains c =
    let o = c.self.inside.outline in
    let known = c.self.invariant in
    let count : c.node_count.result ≡ node_count o = c.node_count.ensures.count ∙ ap node_count (sym c.self.view_is) in
    subst (λ (n : ℕ). AreChains n c.self.inside.uses) (sym count) (chains o c.self.inside.uses known.uses known.accepted.nested)

pub of-requires-clause-inside : goal.of-requires-clause-inside
of-requires-clause-inside c = λ j there.
    closed_rows c.self.inside.outline c.self.inside.uses c.self.invariant.uses c.number_in.result j (subst (λ (ks : List ℕ). Contains ks j) c.row-row.ensures.row there)

pub returns-clause-exact : goal.returns-clause-exact
returns-clause-exact c = λ m.
    let o = c.self.inside.outline in
    let g = c.self.inside.uses in
    let node = c.args.node in
    let known = c.self.invariant in
    let nested = known.accepted.nested in
    let inside : IsNodeOf o node = subst (λ t. IsNodeOf t node) (sym c.self.view_is) c.requires in
    let symbols : length c.symbols-symbols.result.now ≡ length o.symbols = ap length c.symbols-symbols.ensures in
    let count : c.node_count.result ≡ node_count o = c.node_count.ensures.count ∙ ap node_count (sym c.self.view_is) in
    let number : c.number_in.result ≡ number_of o node = c.number_in.ensures ∙ ap (λ (s : ℕ). number_in s node) symbols in
    let made : c.of.result ≡ map (node_at o) (graph.row (whole_rows (node_count o) g) (number_of o node)) =
    c.of.ensures
    ∙ ap (λ (s : ℕ). map (node_in s) (whole_row c.node_count.result g c.row-row.result.now)) symbols
    ∙ ap (λ (n : ℕ). map (node_at o) (whole_row n g c.row-row.result.now)) count
    ∙ ap (λ (ks : List ℕ). map (node_at o) (whole_row (node_count o) g ks)) (c.row-row.ensures.row ∙ ap (graph.row g) number)
    ∙ ap (map (node_at o)) (sym (row-whole_rows (node_count o) g (chains o g known.uses nested) (number_of o node) (number_below o node inside))) in
    subst (λ t. Contains c.of.result m ↔ Uses t node m) c.self.view_is
    (subst (λ (ns : List Node). Contains ns m ↔ Uses o node m) (sym made) (row_exact o (whole_rows (node_count o) g) (used_within o) (graph_of_rows o g known.uses nested) node m inside))

pub returns-clause-factors : goal.returns-clause-factors
returns-clause-factors c = nodes_of_factors c.args.self.now
