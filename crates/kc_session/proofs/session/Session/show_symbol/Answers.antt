use Rattle.std.proofs.Common.{[], ◌∷◌}
use Rattle.kc_tree.specs.declared.node.Node.TheVariants.{Vis, Val}
use Rattle.kc_session.specs.declared.command.Refusal.TheVariants.{NoMemory}
use Rattle.kc_session.proofs.AskedLaws.{asks_refused, asks_these, shown_grew, shown_kept}
use Rattle.kc_session.proofs.session.Session.show_symbol.Goals as goal

pub returns-in-Ok-clause-asks : goal.returns-in-Ok-clause-asks
returns-in-Ok-clause-asks c =
    let s = c.args.symbol in
    let old = c.args.self.now in
    let new = c.fill_node.new.self in
    let grew = c.fill_node.ensures.grew in
    asks_these (Vis s ∷ Val s ∷ []) old new _ (shown_grew s old new c.fill_node.ensures.sound grew) (shown_kept s old new c.requires grew c.in-Ok.ensures.done c.fill_node.ensures.sound)

pub returns-in-Err-clause-asks : goal.returns-in-Err-clause-asks
returns-in-Err-clause-asks c =
    let s = c.args.symbol in
    let old = c.args.self.now in
    let new = c.fill_node.new.self in
    asks_refused (Vis s ∷ Val s ∷ []) old new NoMemory (shown_grew s old new c.fill_node.ensures.sound c.fill_node.ensures.grew)
