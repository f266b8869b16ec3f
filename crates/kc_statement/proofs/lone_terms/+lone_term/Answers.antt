use Rattle.std.proofs.Common.{rules, sym}
use Rattle.kc_statement.proofs.LoneLaws.{lone_node_is}
use Rattle.kc_statement.proofs.lone_terms.+lone_term.Goals as goal

pub returns-in-All : goal.returns-in-All
returns-in-All t c = rw (sym c.node.ensures.formula, sym (lone_node_is c.node.result.now c.node.ensures.kept)) (search rules)

pub returns-in-BareModule : goal.returns-in-BareModule
returns-in-BareModule t c = rw (sym c.node.ensures.formula, sym (lone_node_is c.node.result.now c.node.ensures.kept)) (search rules)
