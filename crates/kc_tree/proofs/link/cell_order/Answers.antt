use Rattle.std.proofs.Common.{ℕ, filter, map, subst, ap, ◌∙◌, arith}
use Rattle.kc_graph.specs.Graph as graph
use Rattle.kc_graph.specs.OrderFault.{IsTrueFault}
use Rattle.kc_graph.specs.declared.graph.OrderFault.TheVariants.{Loop}
use Rattle.kc_tree.specs.Linked.{named_node}
use Rattle.kc_tree.specs.WholeRows.{is_node}
use Rattle.kc_tree.proofs.CellTables.{closed_rows}
use Rattle.kc_tree.proofs.LinkLaws.{nodes_looped, nodes_loopless}
use Rattle.kc_tree.proofs.link.cell_order.Goals as goal

pub of-requires : goal.of-requires
of-requires c =
    let whole = c.requires.rows.whole in
    let few = c.requires.few_cells in
    record {
      closed = closed_rows c.args.outline.now c.args.used.now c.requires.rows;
      few = omega (arith, whole, few);
    }

pub returns-in-Ok-clause-loopless : goal.returns-in-Ok-clause-loopless
returns-in-Ok-clause-loopless c =
    let order = c.in-Ok.order.items in
    nodes_loopless c.args.outline.now c.args.used.now c.requires.rows c.requires.nested order (subst (λ g. graph.IsOrder g order) c.of.ensures c.in-Ok.ensures.ok)

pub returns-in_ok-nodes-in-Err-Loop-clause-fault : goal.returns-in_ok-nodes-in-Err-Loop-clause-fault
returns-in_ok-nodes-in-Err-Loop-clause-fault c =
    let t = c.args.outline.now in
    let numbers = c.in-Err-Loop.numbers.items in
    let fault : IsTrueFault c.of.result (Loop c.in-Err-Loop.numbers) = rw c.in-Err-Loop.field-0-is at c.in-Err-Loop.ensures.err in
    let named = c.in_ok-nodes-in-Err-Loop.ensures
    ∙ ap (map (named_node t)) (c.as_slice.ensures.value ∙ c.keep_nodes.ensures ∙ ap (λ (n : ℕ). filter (is_node n) numbers) c.node_count.ensures) in
    nodes_looped t c.args.used.now c.requires.rows c.requires.nested numbers c.in_ok-nodes-in-Err-Loop.nodes.items (subst (λ g. graph.IsLoop g numbers) c.of.ensures fault) named
