use Rattle.std.proofs.Common.{subst, arith}
use Rattle.kc_graph.specs.Graph as graph
use Rattle.kc_outline.specs.TreeValue.{TreeValue}
use Rattle.kc_tree.specs.declared.tree.Tree.TheInside.{Inside}
use Rattle.kc_tree.proofs.CellTables.{closed_rows}
use Rattle.kc_tree.proofs.LinkLaws.{IsSoundOutline, accepted, nodes_ordered, well_made}
use Rattle.kc_tree.proofs.link.link.Goals as goal
use Rattle.kc_tree.proofs.link.link.Goals.{In_ok-check_outline}

pub of-requires-clause-closed : goal.of-requires-clause-closed
of-requires-clause-closed c = closed_rows c.args.outline c.in_ok-uses.uses c.in_ok-uses.ensures

-- what was found of the outline
sound : (c : In_ok-check_outline) → IsSoundOutline c.args.outline
sound c = record {
  few = c.requires.few;
  few_choices = c.requires.few_choices;
  named = c.requires.named;
  names = c.requires.names;
  entries = c.requires.entries;
  firsts = c.requires.firsts;
  menus = c.requires.menus;
  members = c.requires.members;
  faultless = c.in_ok-check_outline.ensures.faultless;
  nested = c.requires.nested;
}

pub invariant_of-result : goal.invariant_of-result
invariant_of-result c =
    let t = c.args.outline in
    let fields : TreeValue → Inside = λ o. record { outline = o; modules = c.modules_symbol-modules.result; order = c.in_ok-order.order; uses = c.in_ok-uses.uses; used_by = c.in_ok-used_by.used_by } in
    let g = c.in_ok-uses.uses in
    let choices = c.requires.few_choices in
    let definitions = c.requires.few_definitions in
    let blocks = c.requires.few_blocks in
    let few = c.requires.few in
    well_made (fields t) (sound (goal.at.invariant_of-result c).In_ok-check_outline) c.modules_symbol-modules.ensures (omega (arith, few, choices, definitions, blocks)) c.in_ok-uses.ensures c.in_ok-order.ensures.order
    (subst (λ h. graph.IsConverse h c.in_ok-used_by.used_by) c.of.ensures c.in_ok-used_by.ensures.converse)

pub returns-clause-accepted : goal.returns-clause-accepted
returns-clause-accepted c =
    let t = c.args.outline in
    accepted t _ (sound (goal.at.returns-clause-accepted c).In_ok-check_outline) (nodes_ordered t c.in_ok-uses.uses c.in_ok-uses.ensures c.requires.nested c.in_ok-order.order.items c.in_ok-order.ensures.order)
