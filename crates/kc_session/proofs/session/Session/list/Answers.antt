use Rattle.kc_session.proofs.AskedLaws.{values_there, visibilities_there}
use Rattle.kc_session.proofs.session.Session.list.Goals as goal

pub list_text-requires-clause-asked : goal.list_text-requires-clause-asked
list_text-requires-clause-asked c =
    values_there c.args.self.now c.fill_symbols.new.self c.solved.result c.fill_symbols.ensures.sound c.solved.ensures.solved c.fill_symbols.ensures.grew c.in-Ok.ensures.done

pub list_text-requires-clause-visibility : goal.list_text-requires-clause-visibility
list_text-requires-clause-visibility c =
    visibilities_there c.args.self.now c.fill_symbols.new.self c.solved.result c.fill_symbols.ensures.sound c.solved.ensures.solved c.fill_symbols.ensures.grew c.in-Ok.ensures.done
