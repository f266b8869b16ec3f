use Rattle.std.proofs.Common.{subst}
use Rattle.kc_tree.specs.Nodes.{all_nodes}
use Rattle.kc_session.specs.declared.command.Refusal.TheVariants.{NoMemory}
use Rattle.kc_session.specs.Session.{IsSound}
use Rattle.kc_session.proofs.AskedLaws.{asks_all, asks_refused}
use Rattle.kc_session.proofs.session.Session.new_list.Goals.{in-Ok, in-Err}
use Rattle.kc_session.proofs.session.Session.new_list.Goals as goal

pub returns-clause-asks : goal.returns-clause-asks
returns-clause-asks c =
    let old = c.args.self.now in
    let new = c.fill_all.new.self in
    elim c.match-fill_all.branch [
      | in-Ok w ↦ asks_all old new c.match-fill_all.result (subst IsSound c.self.view_is c.self.invariant) c.fill_all.ensures.grew w.in-Ok.ensures.all
      | in-Err w ↦ rw w.result-is (asks_refused (all_nodes old.session.tree) old new NoMemory c.fill_all.ensures.grew)
    ]
