use Rattle.kc_names.proofs.EndLaws.{only_none, only_one, only_two}
use Rattle.kc_names.proofs.name_ends.NameEnds.ending_in.Goals as goal

pub returns-in_default : goal.returns-in_default
returns-in_default c = only_none c.args.self.now c.args.name.now c.in_default.ensures

pub returns-in-Some-other : goal.returns-in-Some-other
returns-in-Some-other c = only_two c.args.self.now c.args.name.now c.in-Some.found.now c.in-Some-other.field-0.now c.in-Some.ensures c.in-Some-other.ensures

pub returns-in-None : goal.returns-in-None
returns-in-None c = only_one c.args.self.now c.args.name.now c.in-Some.found.now c.in-Some.ensures c.in-None.ensures
