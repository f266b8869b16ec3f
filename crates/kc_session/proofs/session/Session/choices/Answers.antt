use Rattle.kc_session.proofs.AskedLaws.{selections_there, modes_there}
use Rattle.kc_session.proofs.session.Session.choices.Goals as goal

pub choices_text-requires-clause-asked : goal.choices_text-requires-clause-asked
choices_text-requires-clause-asked c =
    selections_there c.args.self.now c.fill_choices.new.self c.solved.result c.fill_choices.ensures.sound c.solved.ensures.solved c.fill_choices.ensures.grew c.in-Ok.ensures.done

pub choices_text-requires-clause-modes : goal.choices_text-requires-clause-modes
choices_text-requires-clause-modes c =
    modes_there c.args.self.now c.fill_choices.new.self c.solved.result c.fill_choices.ensures.sound c.solved.ensures.solved c.fill_choices.ensures.grew c.in-Ok.ensures.done
