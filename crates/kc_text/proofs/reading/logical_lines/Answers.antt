use Rattle.kc_text.specs.Expansion.{texts_in}
use Rattle.kc_text.proofs.EntryLaws.{given_fault, given_lines, one_reading}
use Rattle.kc_text.proofs.ShownLaws.{value_law}
use Rattle.kc_text.proofs.reading.logical_lines.Goals as goal

pub returns-clause-are : goal.returns-clause-are
returns-clause-are c = given_lines c.args.sources.now (texts_in c.args.vars.now) c.args.top.now (λ v. v.items) c.given_lines.result c.given_lines.ensures.gives

pub returns-clause-fault : goal.returns-clause-fault
returns-clause-fault c = given_fault c.args.sources.now (texts_in c.args.vars.now) c.args.top.now (λ v. v.items) c.given_lines.result c.given_lines.ensures.gives

pub returns-clause-one : goal.returns-clause-one
returns-clause-one c = one_reading c.args.sources.now (texts_in c.args.vars.now) c.args.top.now

pub returns-clause-values : goal.returns-clause-values
returns-clause-values c = value_law
