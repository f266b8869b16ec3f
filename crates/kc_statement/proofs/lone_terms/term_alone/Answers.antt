use Rattle.std.proofs.Common.{rules, sym}
use Rattle.kc_statement.proofs.LoneLaws.{alone_node_is}
use Rattle.kc_statement.proofs.lone_terms.term_alone.Goals as goal

pub returns-in-Group : goal.returns-in-Group
returns-in-Group c = rw (sym c.node.ensures.formula, sym (alone_node_is c.node.result.now c.node.ensures.kept)) (search rules)

pub returns-in-BareModule : goal.returns-in-BareModule
returns-in-BareModule c = rw (sym c.node.ensures.formula, sym (alone_node_is c.node.result.now c.node.ensures.kept)) (search rules)
